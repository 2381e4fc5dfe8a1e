-- A slab that is in no list is put before the first of a list, or behind the last; every other list stays.
use Rattle.std.proofs.Common.{◌≡◌, ◌≢◌, ℕ, ◌<◌, inl, inr, Bool, true, false, List, [], ◌∷◌, ◌++◌, length, refl, sym, ap, subst, ◌∙◌, arith, length-append}
use Rattle.std.proofs.Math.ListN.{set}
use Rattle.std.proofs.lemmas.Bool.{cases_eq, cases_lt, both_ways, eq-eqb, ne_eqb, cond-true, cond-false, false_from_ne_true}
use Rattle.std.proofs.lemmas.Option.{none-some, same_Some, slice_get_within}
use Rattle.std.specs.Prelude.{if◌then◌else◌, Option, Some, None, slice_get}
use Rattle.hm_slab_lists.specs.declared.slab.Link.{Link}
use Rattle.hm_slab_lists.specs.declared.slab.ListName.{ListName}
use Rattle.hm_slab_lists.specs.declared.ends.Ends.{Ends}
use Rattle.hm_slab_lists.specs.declared.ends.AllEnds.{AllEnds}
use Rattle.hm_slab_lists.specs.Ends.{or_else, longer_front, longer_back, ends_in, with_ends}
use Rattle.hm_slab_lists.specs.Links.{Links, front, follows, precedes, edited, linked_first, linked_last, IsBelow, Linked, IsChain, AreChains}
use Rattle.hm_base.specs.Members.{among, AreDistinct}
use Rattle.hm_slab_lists.specs.Lists.{Lists, list_in, headed, ended}
use Rattle.hm_slab_lists.proofs.Indices.{get-set_same, get-set_other, get-append_left, get-append_last, cases_name, ends_same, ends_other, list_same, list_other}
use Rattle.hm_base.proofs.Members.{among_head, among_tail, among_not, among-last, among-last_itself, distinct-last}
use Rattle.hm_slab_lists.proofs.Neighbours.{At, list_at, member, in_more, last_is}
use Rattle.hm_slab_lists.proofs.Unlinking.{Slot, each, stands, get-edited, length-edited}

frame : (ls ls' : Links) (k : ListName) (prev last : Option ℕ) (xs : List ℕ) → Linked ls k prev last xs
    → ((y : ℕ) → among y xs ≡ true → slice_get ls' y ≡ slice_get ls y) → Linked ls' k prev last xs
frame ls ls' k prev last [] linked same = linked
frame ls ls' k prev last (x ∷ xs) linked same =
    (same x (among_head x x xs refl) ∙ linked.0, frame ls ls' k (Some x) last xs linked.1 (λ y is. same y (in_more y x xs is)))

-- a slab with no link is in no list
loose_out : (ls : Links) (k : ListName) (prev last : Option ℕ) (xs : List ℕ) (x : ℕ) → Linked ls k prev last xs → slice_get ls x ≡ Some None → among x xs ≡ false
loose_out ls k prev last xs x linked loose =
    false_from_ne_true (among x xs) (λ is.
    let it = member ls k prev last xs x linked is in
    none-some it.0 (same_Some None (Some it.0) (sym loose ∙ it.1)))

-- one link is edited, and a slab gets one
abbrev pub joined : Links → Option ℕ → (Link → Link) → ℕ → Link → Links
joined ls o f x l = set (edited ls o f) x (Some l)

abbrev KeepsList : (Link → Link) → Type 0
KeepsList f = (l : Link) → (f l).list ≡ l.list

at_new : (ls : Links) (o : Option ℕ) (f : Link → Link) (x : ℕ) (l : Link) → x < length ls → At (joined ls o f x l) x l
at_new ls o f x l below = get-set_same (edited ls o f) x (Some l) (omega (arith, below, length-edited ls o f))

at_other : (ls : Links) (o : Option ℕ) (f : Link → Link) (x y : ℕ) (l : Link) → y ≢ x
    → slice_get (joined ls o f x l) y ≡ (if stands o y then each f (slice_get ls y) else slice_get ls y)
at_other ls o f x y l differs = get-set_other (edited ls o f) x y (Some l) differs ∙ get-edited ls o f y

at_edited : (ls : Links) (z : ℕ) (o : Option ℕ) (f : Link → Link) (x y : ℕ) (l m : Link) → y ≢ x → o ≡ Some z → z ≡ y → At ls y m → At (joined ls o f x l) y (f m)
at_edited ls z o f x y l m differs is same at =
    at_other ls o f x y l differs
    ∙ cond-true (stands o y) (each f (slice_get ls y)) (slice_get ls y) (ap (λ (p : Option ℕ). stands p y) is ∙ eq-eqb z y same)
    ∙ ap (each f) at

at_kept : (ls : Links) (o : Option ℕ) (f : Link → Link) (x y : ℕ) (l : Link) → y ≢ x → stands o y ≡ false → slice_get (joined ls o f x l) y ≡ slice_get ls y
at_kept ls o f x y l differs away = at_other ls o f x y l differs ∙ cond-false (stands o y) (each f (slice_get ls y)) (slice_get ls y) away

-- the link that a slab had before, in the same list
had : (b : Bool) (f : Link → Link) (g : Slot) (m : Link) → KeepsList f → (if b then each f g else g) ≡ Some (Some m) → (l : Link) × (g ≡ Some (Some l)) × (l.list ≡ m.list)
had true f None m keeps is = absurd (none-some (Some m) is)
had true f (Some None) m keeps is = absurd (none-some m (same_Some None (Some m) is))
had true f (Some (Some l)) m keeps is = (l, refl, sym (keeps l) ∙ ap (λ (n : Link). n.list) (same_Some (f l) m (same_Some (Some (f l)) (Some m) is)))
had false f g m keeps is = (m, is, refl)

all_joined : (ls : Links) (o : Option ℕ) (f : Link → Link) (x : ℕ) (l : Link) (j : ListName) (ys : List ℕ) → KeepsList f → x < length ls
    → (l.list ≡ j → among x ys ≡ true) → ((y : ℕ) (m : Link) → x ≢ y → At ls y m → m.list ≡ j → among y ys ≡ true)
    → (y : ℕ) (m : Link) → At (joined ls o f x l) y m → m.list ≡ j → among y ys ≡ true
all_joined ls o f x l j ys keeps below itself rest y m at is =
    elim (cases_eq x y) as (λ _. among y ys ≡ true) [
      | inl e ↦ ap (λ n. among n ys) (sym e) ∙ itself (list_at (joined ls o f x l) x y l m (at_new ls o f x l below) at e ∙ is)
      | inr n ↦
          let before = had (stands o y) f (slice_get ls y) m keeps (sym (at_other ls o f x y l (λ e. n (sym e))) ∙ at) in
          rest y before.0 n before.1 (before.2 ∙ is)
    ]

-- ---- another list stays
abbrev pub IsMember : Option ℕ → List ℕ → Type 0
IsMember None xs = Unit {0}
IsMember (Some z) xs = among z xs ≡ true

not_edited : (ls : Links) (j k : ListName) (prev last before behind : Option ℕ) (xs ys : List ℕ) (o : Option ℕ) (y : ℕ) → j ≢ k
    → Linked ls k prev last xs → Linked ls j before behind ys → IsMember o xs → among y ys ≡ true → stands o y ≡ false
not_edited ls j k prev last before behind xs ys None y differs linked other is in_other = refl
not_edited ls j k prev last before behind xs ys (Some z) y differs linked other is in_other =
    ne_eqb z y (λ e.
    let one = member ls k prev last xs z linked is in
    let two = member ls j before behind ys y other in_other in
    differs (sym two.2 ∙ sym (list_at ls z y one.0 two.0 one.1 two.1 e) ∙ one.2))

other_stays : (ls : Links) (j k : ListName) (ends : Ends) (prev last o : Option ℕ) (xs ys : List ℕ) (f : Link → Link) (x : ℕ) (l : Link) → j ≢ k → l.list ≡ k
    → KeepsList f → Linked ls k prev last xs → IsMember o xs → x < length ls → slice_get ls x ≡ Some None → IsChain ls j ends ys → IsChain (joined ls o f x l) j ends ys
other_stays ls j k ends prev last o xs ys f x l differs names keeps linked is below loose chain =
    let out : among x ys ≡ false = loose_out ls j None ends.last ys x chain.linked loose in record {
      first = chain.first;
      count = chain.count;
      linked =
          frame ls (joined ls o f x l) j None ends.last ys chain.linked (λ y there.
          at_kept ls o f x y l (λ e. among_not y x ys out there (sym e)) (not_edited ls j k prev last None ends.last xs ys o y differs linked chain.linked is there));
      distinct = chain.distinct;
      all = all_joined ls o f x l j ys keeps below (λ e. absurd (differs (sym e ∙ names))) (λ y m n at name. chain.all y m at name);
    }

-- ---- before the first
last_some : (ls : Links) (k : ListName) (prev last : Option ℕ) (c : ℕ) (r : List ℕ) → Linked ls k prev last (c ∷ r) → (z : ℕ) × (last ≡ Some z) × (among z (c ∷ r) ≡ true)
last_some ls k prev last c r linked =
    elim (last_is ls k (Some c) last r linked.1) as (λ _. (z : ℕ) × (last ≡ Some z) × (among z (c ∷ r) ≡ true)) [
      | inl e ↦ (c, e, among_head c c r refl)
      | inr w ↦ (
        w.0,
        w.1,
        elim (cases_eq c w.0) as (λ _. among w.0 (c ∷ r) ≡ true) [ inl e ↦ among_head w.0 c r e | inr n ↦ among_tail w.0 c r n ∙ w.2 ],
      )
    ]

before_rest : (ls : Links) (k : ListName) (last first : Option ℕ) (x : ℕ) (l : Link) (xs : List ℕ) → Linked ls k None last xs → first ≡ front xs → AreDistinct xs
    → among x xs ≡ false → Linked (joined ls first (precedes (Some x)) x l) k (Some x) (or_else last x) xs
before_rest ls k last first x l [] linked is distinct out = ap (λ o. or_else o x) linked
before_rest ls k last first x l (c ∷ r) linked is distinct out =
    let end = last_some ls k None last c r linked in
    let same : last ≡ or_else last x = end.1 ∙ sym (ap (λ o. or_else o x) end.1) in
    let c_x : c ≢ x = λ e. both_ways (among x (c ∷ r)) out (among_head x c r e) in
    let rest_out : among x r ≡ false = sym (among_tail x c r c_x) ∙ out in (
      at_edited ls c first (precedes (Some x)) x c l (record { list = k; previous = None; next = front r }) c_x is refl linked.0,
      subst (λ o. Linked (joined ls first (precedes (Some x)) x l) k (Some c) o r) same
          (frame ls (joined ls first (precedes (Some x)) x l) k (Some c) last r linked.1 (λ y there.
          at_kept ls first (precedes (Some x)) x y l (λ e. among_not y x r rest_out there (sym e))
          (ap (λ (p : Option ℕ). stands p y) is ∙ ne_eqb c y (among_not y c r distinct.0 there)))),
    )

first_member : (ends : Ends) (xs : List ℕ) → ends.first ≡ front xs → IsMember ends.first xs
first_member ends [] is = subst (λ o. IsMember o []) (sym is) tt
first_member ends (c ∷ r) is = subst (λ o. IsMember o (c ∷ r)) (sym is) (among_head c c r refl)

chain_headed : (ls : Links) (k : ListName) (ends : Ends) (xs : List ℕ) (x : ℕ) → IsChain ls k ends xs → x < length ls → slice_get ls x ≡ Some None
    → IsChain (linked_first ls k ends x) k (longer_front x ends) (x ∷ xs)
chain_headed ls k ends xs x chain below loose =
    let out : among x xs ≡ false = loose_out ls k None ends.last xs x chain.linked loose in
    let link : Link = record { list = k; previous = None; next = ends.first } in record {
      first = refl;
      count = omega (arith, chain.count);
      linked = (
        at_new ls ends.first (precedes (Some x)) x link below ∙ ap (λ (o : Option ℕ). Some (Some (record { list = k; previous = None; next = o }))) chain.first,
        before_rest ls k ends.last ends.first x link xs chain.linked chain.first chain.distinct out,
      );
      distinct = (out, chain.distinct);
      all =
          all_joined ls ends.first (precedes (Some x)) x link k (x ∷ xs) (λ l. refl) below (λ e. among_head x x xs refl)
          (λ y m n at name. among_tail y x xs n ∙ chain.all y m at name);
    }

headed_same : (k : ListName) (x : ℕ) (lists : Lists) → list_in (headed k x lists) k ≡ x ∷ list_in lists k
headed_same k x lists = list_same lists k (x ∷ list_in lists k)

pub chains_headed : (ls : Links) (all : AllEnds) (lists : Lists) (k : ListName) (x : ℕ) → AreChains ls all lists → x < length ls → slice_get ls x ≡ Some None
    → AreChains (linked_first ls k (ends_in all k) x) (with_ends all k (longer_front x (ends_in all k))) (headed k x lists)
chains_headed ls all lists k x chains below loose j =
    elim (cases_name j k) as (λ _. IsChain (linked_first ls k (ends_in all k) x) j (ends_in (with_ends all k (longer_front x (ends_in all k))) j) (list_in (headed k x lists) j)) [
      | inl e ↦
          subst (λ i. IsChain (linked_first ls k (ends_in all k) x) i (ends_in (with_ends all k (longer_front x (ends_in all k))) i) (list_in (headed k x lists) i)) (sym e)
          (subst (λ ys. IsChain (linked_first ls k (ends_in all k) x) k (ends_in (with_ends all k (longer_front x (ends_in all k))) k) ys) (sym (headed_same k x lists))
          (subst (λ ends. IsChain (linked_first ls k (ends_in all k) x) k ends (x ∷ list_in lists k)) (sym (ends_same all k (longer_front x (ends_in all k))))
          (chain_headed ls k (ends_in all k) (list_in lists k) x (chains k) below loose)))
      | inr n ↦
          subst (λ ys. IsChain (linked_first ls k (ends_in all k) x) j (ends_in (with_ends all k (longer_front x (ends_in all k))) j) ys) (sym (list_other lists j k (x ∷ list_in lists k) n))
          (subst (λ ends. IsChain (linked_first ls k (ends_in all k) x) j ends (list_in lists j)) (sym (ends_other all j k (longer_front x (ends_in all k)) n))
          (other_stays ls j k (ends_in all j) None (ends_in all k).last (ends_in all k).first (list_in lists k) (list_in lists j) (precedes (Some x)) x
          (record { list = k; previous = None; next = (ends_in all k).first }) n refl (λ l. refl) (chains k).linked
          (first_member (ends_in all k) (list_in lists k) (chains k).first) below loose (chains j)))
    ]

-- ---- behind the last
behind_all : (ls : Links) (k : ListName) (last : Option ℕ) (x : ℕ) → x < length ls → (prev : Option ℕ) (xs : List ℕ) → Linked ls k prev last xs → AreDistinct xs → among x xs ≡ false
    → Linked (joined ls last (follows (Some x)) x (record { list = k; previous = last; next = None })) k prev (Some x) (xs ++ x ∷ [])
behind_all ls k last x below prev [] linked distinct out = (
  at_new ls last (follows (Some x)) x (record { list = k; previous = last; next = None }) below
      ∙ ap (λ (o : Option ℕ). Some (Some (record { list = k; previous = o; next = None }))) linked,
  refl,
)
behind_all ls k last x below prev (a ∷ []) linked distinct out =
    let a_x : a ≢ x = λ e. both_ways (among x (a ∷ [])) out (among_head x a [] e) in (
      at_edited ls a last (follows (Some x)) x a (record { list = k; previous = last; next = None }) (record { list = k; previous = prev; next = None }) a_x linked.1 refl linked.0,
      behind_all ls k last x below (Some a) [] linked.1 tt refl,
    )
behind_all ls k last x below prev (a ∷ c ∷ r) linked distinct out =
    let a_x : a ≢ x = λ e. both_ways (among x (a ∷ c ∷ r)) out (among_head x a (c ∷ r) e) in
    let end = last_some ls k (Some a) last c r linked.1 in
    let away : stands last a ≡ false = ap (λ (p : Option ℕ). stands p a) end.1 ∙ ne_eqb end.0 a (λ e. among_not end.0 a (c ∷ r) distinct.0 end.2 (sym e)) in (
      at_kept ls last (follows (Some x)) x a (record { list = k; previous = last; next = None }) a_x away ∙ linked.0,
      behind_all ls k last x below (Some a) (c ∷ r) linked.1 distinct.1 (sym (among_tail x a (c ∷ r) a_x) ∙ out),
    )

last_member : (ls : Links) (k : ListName) (last : Option ℕ) (xs : List ℕ) → Linked ls k None last xs → IsMember last xs
last_member ls k last [] linked = subst (λ o. IsMember o []) (sym linked) tt
last_member ls k last (c ∷ r) linked = let end = last_some ls k None last c r linked in subst (λ o. IsMember o (c ∷ r)) (sym end.1) end.2

front-last : (first : Option ℕ) (x : ℕ) (xs : List ℕ) → first ≡ front xs → or_else first x ≡ front (xs ++ x ∷ [])
front-last first x [] is = ap (λ o. or_else o x) is
front-last first x (c ∷ r) is = ap (λ o. or_else o x) is

chain_ended : (ls : Links) (k : ListName) (ends : Ends) (xs : List ℕ) (x : ℕ) → IsChain ls k ends xs → x < length ls → slice_get ls x ≡ Some None
    → IsChain (linked_last ls k ends x) k (longer_back x ends) (xs ++ x ∷ [])
chain_ended ls k ends xs x chain below loose =
    let out : among x xs ≡ false = loose_out ls k None ends.last xs x chain.linked loose in
    let long = length-append xs (x ∷ []) in record {
      first = front-last ends.first x xs chain.first;
      count = omega (arith, chain.count, long);
      linked = behind_all ls k ends.last x below None xs chain.linked chain.distinct out;
      distinct = distinct-last x xs chain.distinct out;
      all =
          all_joined ls ends.last (follows (Some x)) x (record { list = k; previous = ends.last; next = None }) k (xs ++ x ∷ []) (λ l. refl) below (λ e. among-last_itself x xs)
          (λ y m n at name. among-last y x xs (chain.all y m at name));
    }

ended_same : (k : ListName) (x : ℕ) (lists : Lists) → list_in (ended k x lists) k ≡ list_in lists k ++ x ∷ []
ended_same k x lists = list_same lists k (list_in lists k ++ x ∷ [])

pub chains_ended : (ls : Links) (all : AllEnds) (lists : Lists) (k : ListName) (x : ℕ) → AreChains ls all lists → x < length ls → slice_get ls x ≡ Some None
    → AreChains (linked_last ls k (ends_in all k) x) (with_ends all k (longer_back x (ends_in all k))) (ended k x lists)
chains_ended ls all lists k x chains below loose j =
    elim (cases_name j k) as (λ _. IsChain (linked_last ls k (ends_in all k) x) j (ends_in (with_ends all k (longer_back x (ends_in all k))) j) (list_in (ended k x lists) j)) [
      | inl e ↦
          subst (λ i. IsChain (linked_last ls k (ends_in all k) x) i (ends_in (with_ends all k (longer_back x (ends_in all k))) i) (list_in (ended k x lists) i)) (sym e)
          (subst (λ ys. IsChain (linked_last ls k (ends_in all k) x) k (ends_in (with_ends all k (longer_back x (ends_in all k))) k) ys) (sym (ended_same k x lists))
          (subst (λ ends. IsChain (linked_last ls k (ends_in all k) x) k ends (list_in lists k ++ x ∷ [])) (sym (ends_same all k (longer_back x (ends_in all k))))
          (chain_ended ls k (ends_in all k) (list_in lists k) x (chains k) below loose)))
      | inr n ↦
          subst (λ ys. IsChain (linked_last ls k (ends_in all k) x) j (ends_in (with_ends all k (longer_back x (ends_in all k))) j) ys) (sym (list_other lists j k (list_in lists k ++ x ∷ []) n))
          (subst (λ ends. IsChain (linked_last ls k (ends_in all k) x) j ends (list_in lists j)) (sym (ends_other all j k (longer_back x (ends_in all k)) n))
          (other_stays ls j k (ends_in all j) None (ends_in all k).last (ends_in all k).last (list_in lists k) (list_in lists j) (follows (Some x)) x
          (record { list = k; previous = (ends_in all k).last; next = None }) n refl (λ l. refl) (chains k).linked
          (last_member ls k (ends_in all k).last (list_in lists k) (chains k).linked) below loose (chains j)))
    ]

-- ---- one more slab, in no list
pub chains_more : (ls : Links) (all : AllEnds) (lists : Lists) → AreChains ls all lists → AreChains (ls ++ None ∷ []) all lists
chains_more ls all lists chains k = record {
  first = (chains k).first;
  count = (chains k).count;
  linked =
      frame ls (ls ++ None ∷ []) k None (ends_in all k).last (list_in lists k) (chains k).linked (λ y there.
      let it = member ls k None (ends_in all k).last (list_in lists k) y (chains k).linked there in
      get-append_left ls (None ∷ []) y (slice_get_within ls y (Some it.0) it.1));
  distinct = (chains k).distinct;
  all = λ y m at name.
      elim (cases_lt y (length ls)) as (λ _. among y (list_in lists k) ≡ true) [
        | inl lt ↦ (chains k).all y m (sym (get-append_left ls (None ∷ []) y lt) ∙ at) name
        | inr ge ↦
            elim (get-append_last ls None y ge) as (λ _. among y (list_in lists k) ≡ true) [
              | inl e ↦ absurd (none-some m (same_Some None (Some m) (sym e ∙ at)))
              | inr e ↦ absurd (none-some (Some m) (sym e ∙ at))
            ]
      ];
}

-- ---- places of slabs
pub first_below : (ls : Links) (all : AllEnds) (lists : Lists) (k : ListName) → AreChains ls all lists → IsBelow (ends_in all k).first (length ls)
first_below ls all lists k chains =
    within ls k (ends_in all k).last (ends_in all k).first (list_in lists k) (chains k).linked (first_member (ends_in all k) (list_in lists k) (chains k).first)
  where
    within : (ls : Links) (k : ListName) (last o : Option ℕ) (xs : List ℕ) → Linked ls k None last xs → IsMember o xs → IsBelow o (length ls)
    within ls k last None xs linked is = tt
    within ls k last (Some z) xs linked is = let it = member ls k None last xs z linked is in slice_get_within ls z (Some it.0) it.1

pub last_below : (ls : Links) (all : AllEnds) (lists : Lists) (k : ListName) → AreChains ls all lists → IsBelow (ends_in all k).last (length ls)
last_below ls all lists k chains =
    within ls k (ends_in all k).last (ends_in all k).last (list_in lists k) (chains k).linked (last_member ls k (ends_in all k).last (list_in lists k) (chains k).linked)
  where
    within : (ls : Links) (k : ListName) (last o : Option ℕ) (xs : List ℕ) → Linked ls k None last xs → IsMember o xs → IsBelow o (length ls)
    within ls k last None xs linked is = tt
    within ls k last (Some z) xs linked is = let it = member ls k None last xs z linked is in slice_get_within ls z (Some it.0) it.1
