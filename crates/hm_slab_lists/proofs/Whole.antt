-- Slabs with their links and ends, after an edit: what is kept, and what contracts see.
use Rattle.std.proofs.Common.{◌≡◌, ℕ, zero, suc, ◌+◌, ◌-◌, ◌<◌, ◌≤◌, inl, inr, Bool, true, false, List, [], ◌∷◌, ◌++◌, length, get_or, take, drop, refl, sym, ap, subst, ◌∙◌, arith}
use Rattle.std.proofs.Math.ListN.{set, length-set}
use Rattle.std.proofs.lemmas.Bool.{both_ways, false_from_ne_true}
use Rattle.std.proofs.lemmas.List.{length-map, map-append, map-set}
use Rattle.std.proofs.Math.Seq.{take-append_seam, map-set_same}
use Rattle.std.proofs.lemmas.Option.{none-some, same_Some, slice_get_within, slice_get-get_or}
use Rattle.std.specs.Prelude.{Option, Some, None, slice_get, option_map, if◌then◌else◌}
use Rattle.hm_slab_meta.specs.Uses.{SlabUse}
use Rattle.hm_slab_lists.specs.declared.slab.Link.{Link}
use Rattle.hm_slab_lists.specs.declared.slab.Slab.{Slab}
use Rattle.hm_slab_lists.specs.declared.slab.ListName.{ListName}
use Rattle.hm_slab_lists.specs.declared.slab.ListName.TheVariants.{Partial, Empty, Full, Retired}
use Rattle.hm_slab_lists.specs.declared.ends.Ends.{Ends}
use Rattle.hm_slab_lists.specs.declared.ends.AllEnds.{AllEnds}
use Rattle.hm_slab_lists.specs.Ends.{shorter, longer_front, longer_back, ends_in, with_ends}
use Rattle.hm_slab_lists.specs.Links.{Links, links_of, metas_of, front, follows, precedes, edited, with_next, with_previous, unlinked, linked_first, linked_last, walk, lists_of, IsBelow, Linked, AreChains}
use Rattle.hm_base.specs.Members.{among}
use Rattle.hm_slab_lists.specs.Lists.{Lists, list_in, gone, headed, ended, IsLoose}
use Rattle.hm_slab_lists.specs.Chained.{Chained, with_lists, with_slab, total, linked_count, IsChained}
use Rattle.hm_slab_lists.specs.ChainsLending.{with_meta_at}
use Rattle.hm_slab_lists.specs.Lending.{with_meta}
use Rattle.hm_slab_lists.proofs.Neighbours.{At, next_at, previous_at, list_at, member, walk_is}
use Rattle.hm_base.proofs.Members.{among_cases, among-without_same, without_none}
use Rattle.hm_slab_lists.proofs.Unlinking.{Slot, each, stands, get-edited, chains_without}
use Rattle.hm_slab_lists.proofs.Joining.{chains_headed, chains_ended, chains_more, first_below, last_below}

-- ---- the lists are those that the links make
pub lists_is : (ls : Links) (all : AllEnds) (lists : Lists) → AreChains ls all lists → lists_of ls all ≡ lists
lists_is ls all lists chains = λ i. record {
  partial = one Partial i;
  empty = one Empty i;
  full = one Full i;
  retired = one Retired i;
}
  where
    one : (k : ListName) → walk ls (ends_in all k).count (ends_in all k).first ≡ list_in lists k
    one k =
        ap (λ n. walk ls n (ends_in all k).first) (chains k).count ∙ ap (λ o. walk ls (length (list_in lists k)) o) (chains k).first
        ∙ walk_is ls k None (ends_in all k).last (list_in lists k) (chains k).linked

-- ---- how many slabs are in a list
count_most : (ls : Links) → linked_count ls ≤ length ls
count_most [] = omega arith
count_most (None ∷ ls) = omega (arith, count_most ls)
count_most (Some l ∷ ls) = omega (arith, count_most ls)

count-set_none : (ls : Links) (x : ℕ) (l : Link) → At ls x l → linked_count (set ls x None) + 1 ≡ linked_count ls
count-set_none [] x l at = absurd (none-some (Some l) at)
count-set_none (None ∷ ls) zero l at = absurd (none-some l (same_Some None (Some l) at))
count-set_none (Some m ∷ ls) zero l at = omega arith
count-set_none (None ∷ ls) (suc x) l at = count-set_none ls x l at
count-set_none (Some m ∷ ls) (suc x) l at = let rest = count-set_none ls x l at in omega (arith, rest)

count-set_some : (ls : Links) (x : ℕ) (l : Link) → slice_get ls x ≡ Some None → linked_count (set ls x (Some l)) ≡ linked_count ls + 1
count-set_some [] x l loose = absurd (none-some None loose)
count-set_some (None ∷ ls) zero l loose = omega arith
count-set_some (Some m ∷ ls) zero l loose = absurd (none-some m (sym (same_Some (Some m) None loose)))
count-set_some (None ∷ ls) (suc x) l loose = count-set_some ls x l loose
count-set_some (Some m ∷ ls) (suc x) l loose = let rest = count-set_some ls x l loose in omega (arith, rest)

count-map_at : (ls : Links) (b : ℕ) (f : Link → Link) → linked_count (set ls b (option_map f (get_or ls b None))) ≡ linked_count ls
count-map_at [] b f = refl
count-map_at (None ∷ ls) zero f = refl
count-map_at (Some m ∷ ls) zero f = refl
count-map_at (None ∷ ls) (suc b) f = count-map_at ls b f
count-map_at (Some m ∷ ls) (suc b) f = ap suc (count-map_at ls b f)

count-edited : (ls : Links) (o : Option ℕ) (f : Link → Link) → linked_count (edited ls o f) ≡ linked_count ls
count-edited ls None f = refl
count-edited ls (Some b) f = count-map_at ls b f

count-more : (ls : Links) → linked_count (ls ++ None ∷ []) ≡ linked_count ls
count-more [] = refl
count-more (None ∷ ls) = count-more ls
count-more (Some l ∷ ls) = ap suc (count-more ls)

still_linked : (ls : Links) (o : Option ℕ) (f : Link → Link) (x : ℕ) (l : Link) → At ls x l → (m : Link) × At (edited ls o f) x m
still_linked ls o f x l at = either (stands o x) (slice_get (edited ls o f) x) (get-edited ls o f x ∙ ap (λ (g : Slot). if stands o x then each f g else g) at)
  where
    either : (b : Bool) (g : Slot) → g ≡ (if b then each f (Some (Some l)) else Some (Some l)) → (m : Link) × (g ≡ Some (Some m))
    either true g is = (f l, is)
    either false g is = (l, is)

one_more : (ls : Links) (o : Option ℕ) (f : Link → Link) (x : ℕ) (l : Link) → slice_get ls x ≡ Some None → linked_count (set (edited ls o f) x (Some l)) ≡ linked_count ls + 1
one_more ls o f x l loose =
    count-set_some (edited ls o f) x l (get-edited ls o f x ∙ ap (λ (g : Slot). if stands o x then each f g else g) loose ∙ either (stands o x))
    ∙ ap (λ n. n + 1) (count-edited ls o f)
  where
    either : (b : Bool) → ◌≡◌ {A = Slot} (if b then each f (Some None) else Some None) (Some None)
    either true = refl
    either false = refl

total-with_ends : (all : AllEnds) (k : ListName) (e : Ends) → total (with_ends all k e) + (ends_in all k).count ≡ total all + e.count
total-with_ends all Partial e = omega arith
total-with_ends all Empty e = omega arith
total-with_ends all Full e = omega arith
total-with_ends all Retired e = omega arith

-- ---- the whole, after an edit
pub record Then (slabs : List Slab) (all : AllEnds) (lists : Lists) : Type 0 where
  pub chains : AreChains (links_of slabs) all lists
  pub counted : total all ≡ linked_count (links_of slabs)

pub chained : (slabs : List Slab) (all : AllEnds) (lists : Lists) → Then slabs all lists → IsChained slabs all
chained slabs all lists after = record {
  chains = subst (AreChains (links_of slabs) all) (sym (lists_is (links_of slabs) all lists after.chains)) after.chains;
  counted = after.counted;
  few = let most = count_most (links_of slabs) in omega (arith, after.counted, most, length-map slabs (λ (s : Slab). s.link));
}

-- what contracts see: the lists change, and nothing else
pub seen : (items slabs shown : List Slab) (all all' : AllEnds) (room : ℕ) (now : Chained) (f : Lists → Lists) → shown ≡ slabs → metas_of slabs ≡ metas_of items
    → Then slabs all' (f (lists_of (links_of items) all))
    → ◌≡◌ {A = Chained} (record { metas = metas_of items; lists = lists_of (links_of items) all; room = room }) now
    → ◌≡◌ {A = Chained} (record { metas = metas_of shown; lists = lists_of (links_of shown) all'; room = room }) (with_lists (f now.lists) now)
seen items slabs shown all all' room now f same metas after view =
    ap (λ (l : List Slab). record { metas = metas_of l; lists = lists_of (links_of l) all'; room = room }) same
    ∙ ap (λ (m : List SlabUse). record { metas = m; lists = lists_of (links_of slabs) all'; room = room }) metas
    ∙ ap (λ (l : Lists). record { metas = metas_of items; lists = l; room = room }) (lists_is (links_of slabs) all' (f (lists_of (links_of items) all)) after.chains)
    ∙ ap (λ (v : Chained). with_lists (f v.lists) v) view

-- ---- the edits
some_of : (x : ℕ) (xs : List ℕ) → among x xs ≡ true → 1 ≤ length xs
some_of x [] is = absurd (both_ways false refl is)
some_of x (m ∷ xs) is = omega arith

pub counts_one : (slabs : List Slab) (all : AllEnds) (x : ℕ) (l : Link) → IsChained slabs all → At (links_of slabs) x l → 1 ≤ (ends_in all l.list).count
counts_one slabs all x l kept at =
    let some = some_of x (list_in (lists_of (links_of slabs) all) l.list) ((kept.chains l.list).all x l at refl) in
    omega (arith, some, (kept.chains l.list).count)

links_long : (slabs : List Slab) → length (links_of slabs) ≡ length slabs
links_long slabs = length-map slabs (λ (s : Slab). s.link)

pub then_out : (items slabs : List Slab) (all : AllEnds) (x : ℕ) (l : Link) → IsChained items all → x < length items → At (links_of items) x l
    → links_of slabs ≡ unlinked (links_of items) x l
    → Then slabs (with_ends all l.list (shorter x l (ends_in all l.list))) (gone x (lists_of (links_of items) all))
then_out items slabs all x l kept below at is = record {
  chains =
      subst (λ ls. AreChains ls (with_ends all l.list (shorter x l (ends_in all l.list))) (gone x (lists_of (links_of items) all))) (sym is)
      (chains_without (links_of items) all (lists_of (links_of items) all) x l kept.chains (omega (arith, below, links_long items)) at);
  counted =
      let sum = total-with_ends all l.list (shorter x l (ends_in all l.list)) in
      let one = counts_one items all x l kept at in
      let less = fewer in
      omega (arith, sum, one, less, kept.counted, ap linked_count is);
}
  where
    fewer : linked_count (unlinked (links_of items) x l) + 1 ≡ linked_count (links_of items)
    fewer =
        let one = still_linked (links_of items) l.previous (follows l.next) x l at in
        let two = still_linked (with_next (links_of items) l.previous l.next) l.next (precedes l.previous) x one.0 one.1 in
        count-set_none (with_previous (with_next (links_of items) l.previous l.next) l.next l.previous) x two.0 two.1
        ∙ count-edited (with_next (links_of items) l.previous l.next) l.next (precedes l.previous) ∙ count-edited (links_of items) l.previous (follows l.next)

pub then_first : (items slabs : List Slab) (all : AllEnds) (k : ListName) (x : ℕ) → IsChained items all → x < length items → slice_get (links_of items) x ≡ Some None
    → links_of slabs ≡ linked_first (links_of items) k (ends_in all k) x
    → Then slabs (with_ends all k (longer_front x (ends_in all k))) (headed k x (lists_of (links_of items) all))
then_first items slabs all k x kept below loose is = record {
  chains =
      subst (λ ls. AreChains ls (with_ends all k (longer_front x (ends_in all k))) (headed k x (lists_of (links_of items) all))) (sym is)
      (chains_headed (links_of items) all (lists_of (links_of items) all) k x kept.chains (omega (arith, below, links_long items)) loose);
  counted =
      let sum = total-with_ends all k (longer_front x (ends_in all k)) in
      let more = one_more (links_of items) (ends_in all k).first (precedes (Some x)) x (record { list = k; previous = None; next = (ends_in all k).first }) loose in
      omega (arith, sum, more, kept.counted, ap linked_count is);
}

pub then_last : (items slabs : List Slab) (all : AllEnds) (k : ListName) (x : ℕ) → IsChained items all → x < length items → slice_get (links_of items) x ≡ Some None
    → links_of slabs ≡ linked_last (links_of items) k (ends_in all k) x
    → Then slabs (with_ends all k (longer_back x (ends_in all k))) (ended k x (lists_of (links_of items) all))
then_last items slabs all k x kept below loose is = record {
  chains =
      subst (λ ls. AreChains ls (with_ends all k (longer_back x (ends_in all k))) (ended k x (lists_of (links_of items) all))) (sym is)
      (chains_ended (links_of items) all (lists_of (links_of items) all) k x kept.chains (omega (arith, below, links_long items)) loose);
  counted =
      let sum = total-with_ends all k (longer_back x (ends_in all k)) in
      let more = one_more (links_of items) (ends_in all k).last (follows (Some x)) x (record { list = k; previous = (ends_in all k).last; next = None }) loose in
      omega (arith, sum, more, kept.counted, ap linked_count is);
}

pub then_more : (items slabs : List Slab) (all : AllEnds) (meta : SlabUse) → IsChained items all → slabs ≡ items ++ record { meta = meta; link = None } ∷ []
    → Then slabs all (lists_of (links_of items) all)
then_more items slabs all meta kept is = record {
  chains = subst (λ ls. AreChains ls all (lists_of (links_of items) all)) (sym links) (chains_more (links_of items) all (lists_of (links_of items) all) kept.chains);
  counted = kept.counted ∙ sym (ap linked_count links ∙ count-more (links_of items));
}
  where
    links : links_of slabs ≡ links_of items ++ None ∷ []
    links = ap links_of is ∙ map-append (λ (s : Slab). s.link) items (record { meta = meta; link = None } ∷ [])

-- ---- neighbours are slabs
next_within : (ls : Links) (k : ListName) (prev last : Option ℕ) (xs : List ℕ) (x : ℕ) (l : Link) → Linked ls k prev last xs → among x xs ≡ true → At ls x l → IsBelow l.next (length ls)
next_within ls k prev last [] x l linked is at = absurd (both_ways false refl is)
next_within ls k prev last (a ∷ []) x l linked is at =
    elim (among_cases x a [] is) as (λ _. IsBelow l.next (length ls)) [
      | inl e ↦ subst (λ o. IsBelow o (length ls)) (sym (next_at ls x a l (record { list = k; previous = prev; next = None }) at linked.0 (sym e))) tt
      | inr there ↦ absurd (both_ways false refl there)
    ]
next_within ls k prev last (a ∷ c ∷ r) x l linked is at =
    elim (among_cases x a (c ∷ r) is) as (λ _. IsBelow l.next (length ls)) [
      | inl e ↦
          subst (λ o. IsBelow o (length ls)) (sym (next_at ls x a l (record { list = k; previous = prev; next = Some c }) at linked.0 (sym e)))
          (slice_get_within ls c (Some (record { list = k; previous = Some a; next = front r })) linked.1.0)
      | inr there ↦ next_within ls k (Some a) last (c ∷ r) x l linked.1 there at
    ]

previous_within : (ls : Links) (k : ListName) (prev last : Option ℕ) (xs : List ℕ) (x : ℕ) (l : Link) → Linked ls k prev last xs → IsBelow prev (length ls) → among x xs ≡ true → At ls x l
    → IsBelow l.previous (length ls)
previous_within ls k prev last [] x l linked below is at = absurd (both_ways false refl is)
previous_within ls k prev last (a ∷ r) x l linked below is at =
    elim (among_cases x a r is) as (λ _. IsBelow l.previous (length ls)) [
      | inl e ↦ subst (λ o. IsBelow o (length ls)) (sym (previous_at ls x a l (record { list = k; previous = prev; next = front r }) at linked.0 (sym e))) below
      | inr there ↦
          previous_within ls k (Some a) last r x l linked.1 (slice_get_within ls a (Some (record { list = k; previous = prev; next = front r })) linked.0) there at
    ]

pub next_below : (slabs : List Slab) (all : AllEnds) (x : ℕ) (l : Link) → IsChained slabs all → At (links_of slabs) x l → IsBelow l.next (length slabs)
next_below slabs all x l kept at =
    subst (IsBelow l.next) (links_long slabs)
    (next_within (links_of slabs) l.list None (ends_in all l.list).last (list_in (lists_of (links_of slabs) all) l.list) x l (kept.chains l.list).linked ((kept.chains l.list).all x l at refl) at)

pub previous_below : (slabs : List Slab) (all : AllEnds) (x : ℕ) (l : Link) → IsChained slabs all → At (links_of slabs) x l → IsBelow l.previous (length slabs)
previous_below slabs all x l kept at =
    subst (IsBelow l.previous) (links_long slabs)
    (previous_within (links_of slabs) l.list None (ends_in all l.list).last (list_in (lists_of (links_of slabs) all) l.list) x l (kept.chains l.list).linked tt ((kept.chains l.list).all x l at refl) at)

pub ends_below : (slabs : List Slab) (all : AllEnds) (k : ListName) → IsChained slabs all
    → IsBelow (ends_in all k).first (length slabs) × IsBelow (ends_in all k).last (length slabs)
ends_below slabs all k kept = (
  subst (IsBelow (ends_in all k).first) (links_long slabs) (first_below (links_of slabs) all (lists_of (links_of slabs) all) k kept.chains),
  subst (IsBelow (ends_in all k).last) (links_long slabs) (last_below (links_of slabs) all (lists_of (links_of slabs) all) k kept.chains),
)

-- ---- the list that a slab is in
pub is_in : (slabs : List Slab) (all : AllEnds) (k : ListName) (x : ℕ) (l : Link) (b : Bool) → IsChained slabs all → At (links_of slabs) x l
    → (b ≡ true → l.list ≡ k) → (l.list ≡ k → b ≡ true) → b ≡ among x (list_in (lists_of (links_of slabs) all) k)
is_in slabs all k x l true kept at there back = sym ((kept.chains k).all x l at (there refl))
is_in slabs all k x l false kept at there back =
    sym (false_from_ne_true (among x (list_in (lists_of (links_of slabs) all) k)) (λ is.
    let it = member (links_of slabs) k None (ends_in all k).last (list_in (lists_of (links_of slabs) all) k) x (kept.chains k).linked is in
    both_ways false refl (back (list_at (links_of slabs) x x l it.0 at it.1 refl ∙ it.2))))

pub is_loose : (slabs : List Slab) (all : AllEnds) (k : ListName) (x : ℕ) → IsChained slabs all → slice_get (links_of slabs) x ≡ Some None
    → among x (list_in (lists_of (links_of slabs) all) k) ≡ false
is_loose slabs all k x kept loose =
    false_from_ne_true (among x (list_in (lists_of (links_of slabs) all) k)) (λ is.
    let it = member (links_of slabs) k None (ends_in all k).last (list_in (lists_of (links_of slabs) all) k) x (kept.chains k).linked is in
    none-some it.0 (same_Some None (Some it.0) (sym loose ∙ it.1)))

-- the link of a slab that was read
pub read_link : (slabs : List Slab) (x : ℕ) (slab : Slab) → x < length slabs → slab ≡ get_or slabs x slab → slice_get (links_of slabs) x ≡ Some slab.link
read_link [] x slab below is = absurd (omega arith)
read_link (s ∷ slabs) zero slab below is = ap (λ (t : Slab). Some t.link) (sym is)
read_link (s ∷ slabs) (suc x) slab below is = read_link slabs x slab (omega arith) is

pub read_meta : (slabs : List Slab) (x : ℕ) (slab : Slab) → x < length slabs → slab ≡ get_or slabs x slab → slice_get (metas_of slabs) x ≡ Some slab.meta
read_meta [] x slab below is = absurd (omega arith)
read_meta (s ∷ slabs) zero slab below is = ap (λ (t : Slab). Some t.meta) (sym is)
read_meta (s ∷ slabs) (suc x) slab below is = read_meta slabs x slab (omega arith) is

-- a slab that is in no list has no link
pub loose_link : (slabs : List Slab) (all : AllEnds) (x : ℕ) → IsChained slabs all → x < length slabs → IsLoose x (lists_of (links_of slabs) all)
    → slice_get (links_of slabs) x ≡ Some None
loose_link slabs all x kept below loose = decide (slice_get (links_of slabs) x) refl
  where
    decide : (g : Slot) → slice_get (links_of slabs) x ≡ g → slice_get (links_of slabs) x ≡ Some None
    decide None is = absurd (none-some (get_or (links_of slabs) x None) (sym is ∙ slice_get-get_or (links_of slabs) x None (omega (arith, below, links_long slabs))))
    decide (Some None) is = is
    decide (Some (Some l)) is = absurd (both_ways (among x (list_in (lists_of (links_of slabs) all) l.list)) (loose l.list) ((kept.chains l.list).all x l is refl))

-- the slabs after a call that took them as a slice
pub items_then : (items slabs : List Slab) (len : ℕ) → length slabs ≡ len → take len (slabs ++ drop (length slabs) items) ≡ slabs
items_then items slabs len long =
    ap (λ n. take n (slabs ++ drop (length slabs) items)) (sym long) ∙ take-append_seam slabs (drop (length slabs) items)

-- ---- what callers know, of the fields
pub below_items : (items : List Slab) (all : AllEnds) (room x : ℕ) (now : Chained)
    → ◌≡◌ {A = Chained} (record { metas = metas_of items; lists = lists_of (links_of items) all; room = room }) now → x < length now.metas → x < length items
below_items items all room x now view below =
    let long : length now.metas ≡ length items = sym (ap (λ (v : Chained). length v.metas) view) ∙ length-map items (λ (s : Slab). s.meta) in
    omega (arith, below, long)

pub loose_items : (items : List Slab) (all : AllEnds) (room x : ℕ) (now : Chained)
    → ◌≡◌ {A = Chained} (record { metas = metas_of items; lists = lists_of (links_of items) all; room = room }) now → IsLoose x now.lists
    → IsLoose x (lists_of (links_of items) all)
loose_items items all room x now view loose = subst (λ (v : Chained). IsLoose x v.lists) (sym view) loose

same_length : (read slabs : List Slab) → metas_of slabs ≡ metas_of read → length slabs ≡ length read
same_length read slabs metas = sym (length-map slabs (λ (s : Slab). s.meta)) ∙ ap length metas ∙ length-map read (λ (s : Slab). s.meta)

pub shown_is : (items read slabs : List Slab) (len : ℕ) → metas_of slabs ≡ metas_of read → length read ≡ len → take len (slabs ++ drop (length slabs) items) ≡ slabs
shown_is items read slabs len metas long = items_then items slabs len (same_length read slabs metas ∙ long)

-- ---- an edit as a call made it
pub first_done : (items read slabs : List Slab) (all all' : AllEnds) (ends longer : Ends) (k : ListName) (x : ℕ) → IsChained items all → x < length items → IsLoose x (lists_of (links_of items) all)
    → read ≡ items → ends ≡ ends_in all k → links_of slabs ≡ linked_first (links_of read) k ends x → longer ≡ longer_front x ends → all' ≡ with_ends all k longer
    → Then slabs all' (headed k x (lists_of (links_of items) all))
first_done items read slabs all all' ends longer k x kept below loose same these links long ends' =
    subst (λ a. Then slabs a (headed k x (lists_of (links_of items) all))) (sym (ends' ∙ ap (with_ends all k) (long ∙ ap (longer_front x) these)))
    (then_first items slabs all k x kept below (loose_link items all x kept below loose)
    (links ∙ ap (λ (l : List Slab). linked_first (links_of l) k ends x) same ∙ ap (λ e. linked_first (links_of items) k e x) these))

pub last_done : (items read slabs : List Slab) (all all' : AllEnds) (ends longer : Ends) (k : ListName) (x : ℕ) → IsChained items all → x < length items → IsLoose x (lists_of (links_of items) all)
    → read ≡ items → ends ≡ ends_in all k → links_of slabs ≡ linked_last (links_of read) k ends x → longer ≡ longer_back x ends → all' ≡ with_ends all k longer
    → Then slabs all' (ended k x (lists_of (links_of items) all))
last_done items read slabs all all' ends longer k x kept below loose same these links long ends' =
    subst (λ a. Then slabs a (ended k x (lists_of (links_of items) all))) (sym (ends' ∙ ap (with_ends all k) (long ∙ ap (longer_back x) these)))
    (then_last items slabs all k x kept below (loose_link items all x kept below loose)
    (links ∙ ap (λ (l : List Slab). linked_last (links_of l) k ends x) same ∙ ap (λ e. linked_last (links_of items) k e x) these))

pub out_done : (items read slabs : List Slab) (all all' : AllEnds) (ends less : Ends) (x : ℕ) (l : Link) → IsChained items all → x < length items → At (links_of items) x l
    → read ≡ items → ends ≡ ends_in all l.list → links_of slabs ≡ unlinked (links_of read) x l → less ≡ shorter x l ends → all' ≡ with_ends all l.list less
    → Then slabs all' (gone x (lists_of (links_of items) all))
out_done items read slabs all all' ends less x l kept below at same these links short ends' =
    subst (λ a. Then slabs a (gone x (lists_of (links_of items) all))) (sym (ends' ∙ ap (with_ends all l.list) (short ∙ ap (shorter x l) these)))
    (then_out items slabs all x l kept below at (links ∙ ap (λ (m : List Slab). unlinked (links_of m) x l) same))

pub gone_loose : (x : ℕ) (lists : Lists) → IsLoose x (gone x lists)
gone_loose x lists Partial = among-without_same x lists.partial
gone_loose x lists Empty = among-without_same x lists.empty
gone_loose x lists Full = among-without_same x lists.full
gone_loose x lists Retired = among-without_same x lists.retired

pub gone_none : (x : ℕ) (lists : Lists) → IsLoose x lists → gone x lists ≡ lists
gone_none x lists loose = λ i. record {
  partial = without_none x lists.partial (loose Partial) i;
  empty = without_none x lists.empty (loose Empty) i;
  full = without_none x lists.full (loose Full) i;
  retired = without_none x lists.retired (loose Retired) i;
}

-- ---- metadata
pub seen_more : (items slabs : List Slab) (all : AllEnds) (meta : SlabUse) (room : ℕ) (now : Chained) (room' : ℕ) → IsChained items all
    → ◌≡◌ {A = Chained} (record { metas = metas_of items; lists = lists_of (links_of items) all; room = room }) now → slabs ≡ items ++ record { meta = meta; link = None } ∷ []
    → room' ≡ room - 1 → ◌≡◌ {A = Chained} (record { metas = metas_of slabs; lists = lists_of (links_of slabs) all; room = room' }) (with_slab meta now)
seen_more items slabs all meta room now room' kept view is less =
    ap (λ (m : List SlabUse). record { metas = m; lists = lists_of (links_of slabs) all; room = room' }) (ap metas_of is ∙ map-append (λ (s : Slab). s.meta) items (record { meta = meta; link = None } ∷ []))
    ∙ ap (λ (l : Lists). record { metas = metas_of items ++ meta ∷ []; lists = l; room = room' }) (lists_is (links_of slabs) all (lists_of (links_of items) all) (then_more items slabs all meta kept is).chains)
    ∙ ap (λ (n : ℕ). record { metas = metas_of items ++ meta ∷ []; lists = lists_of (links_of items) all; room = n }) less
    ∙ ap (with_slab meta) view

links_lent : (items : List Slab) (x : ℕ) (slab : Slab) (w : SlabUse) → slab ≡ get_or items x slab → links_of (set items x (with_meta slab w)) ≡ links_of items
links_lent items x slab w is = map-set_same (λ (s : Slab). s.link) items x (with_meta slab w) slab (ap (λ (s : Slab). s.link) is)

pub chained_lent : (items : List Slab) (all : AllEnds) (x : ℕ) (slab : Slab) (w : SlabUse) → IsChained items all → slab ≡ get_or items x slab → IsChained (set items x (with_meta slab w)) all
chained_lent items all x slab w kept is = record {
  chains = subst (λ ls. AreChains ls all (lists_of ls all)) (sym (links_lent items x slab w is)) kept.chains;
  counted = kept.counted ∙ sym (ap linked_count (links_lent items x slab w is));
  few = omega (arith, kept.few, length-set items x (with_meta slab w));
}

pub seen_lent : (items : List Slab) (all : AllEnds) (room x : ℕ) (slab : Slab) (now : Chained) (w : SlabUse) → slab ≡ get_or items x slab
    → ◌≡◌ {A = Chained} (record { metas = metas_of items; lists = lists_of (links_of items) all; room = room }) now
    → ◌≡◌ {A = Chained} (record { metas = metas_of (set items x (with_meta slab w)); lists = lists_of (links_of (set items x (with_meta slab w))) all; room = room }) (with_meta_at now x w)
seen_lent items all room x slab now w is view =
    ap (λ (m : List SlabUse). record { metas = m; lists = lists_of (links_of (set items x (with_meta slab w))) all; room = room }) (map-set (λ (s : Slab). s.meta) items x (with_meta slab w))
    ∙ ap (λ (ls : Links). record { metas = set (metas_of items) x w; lists = lists_of ls all; room = room }) (links_lent items x slab w is)
    ∙ ap (λ (v : Chained). with_meta_at v x w) view
