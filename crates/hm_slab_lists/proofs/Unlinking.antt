-- A slab is taken out of its list: its neighbours follow one another, and every list is as it was without it.
use Rattle.std.proofs.Common.{◌≡◌, ◌≢◌, ℕ, ◌<◌, ◌≤◌, inl, inr, Bool, true, false, List, [], ◌∷◌, length, get_or, refl, sym, ap, subst, ◌∙◌, arith}
use Rattle.std.proofs.Math.ListN.{set, length-set}
use Rattle.std.proofs.lemmas.Bool.{cases_eq, cases_lt, both_ways, eq-eqb, ne_eqb, eqb-true, cond-true, cond-false, false_from_ne_true}
use Rattle.std.proofs.lemmas.Option.{none-some, same_Some, slice_get-get_or, slice_get_past}
use Rattle.std.specs.Prelude.{◌==◌, if◌then◌else◌, Option, Some, None, option_map, slice_get}
use Rattle.hm_slab_lists.specs.declared.slab.Link.{Link}
use Rattle.hm_slab_lists.specs.declared.slab.ListName.{ListName}
use Rattle.hm_slab_lists.specs.declared.slab.ListName.TheVariants.{Partial, Empty, Full, Retired}
use Rattle.hm_slab_lists.specs.declared.ends.Ends.{Ends}
use Rattle.hm_slab_lists.specs.declared.ends.AllEnds.{AllEnds}
use Rattle.hm_slab_lists.specs.Ends.{skipped, shorter, ends_in, with_ends}
use Rattle.hm_slab_lists.specs.Links.{Links, front, follows, precedes, edited, with_next, with_previous, unlinked, Linked, IsChain, AreChains}
use Rattle.hm_base.specs.Members.{among, without, AreDistinct}
use Rattle.hm_slab_lists.specs.Lists.{Lists, list_in, gone}
use Rattle.hm_slab_lists.proofs.Indices.{get-set_same, get-set_other, cases_name, ends_same, ends_other}
use Rattle.hm_base.proofs.Members.{without_skip, without_keep, without_none, among-without_other, length-without, distinct-without}
use Rattle.hm_slab_lists.proofs.Neighbours.{At, next_at, previous_at, list_at, member, last_is, next_previous, previous_next}

-- ---- a skipped index
skipped_same : (x y : ℕ) (to : Option ℕ) → y ≡ x → skipped x to (Some y) ≡ to
skipped_same x y to e = cond-true (y == x) to (Some y) (eq-eqb y x e)

skipped_other : (x y : ℕ) (to : Option ℕ) → y ≢ x → skipped x to (Some y) ≡ Some y
skipped_other x y to n = cond-false (y == x) to (Some y) (ne_eqb y x n)

skipped_itself : (x : ℕ) (o : Option ℕ) → skipped x o o ≡ o
skipped_itself x None = refl
skipped_itself x (Some y) =
    elim (cases_eq y x) as (λ _. skipped x (Some y) (Some y) ≡ Some y) [ inl e ↦ skipped_same x y (Some y) e | inr n ↦ skipped_other x y (Some y) n ]

-- ---- one edit of a link
abbrev pub Slot : Type 0
Slot = Option (Option Link)

abbrev pub each : (Link → Link) → Slot → Slot
each f slot = option_map (option_map f) slot

abbrev pub stands : Option ℕ → ℕ → Bool
stands None y = false
stands (Some b) y = b == y

stands_true : (o : Option ℕ) (y : ℕ) → stands o y ≡ true → o ≡ Some y
stands_true None y is = absurd (both_ways false refl is)
stands_true (Some b) y is = ap (λ (n : ℕ). Some n) (eqb-true b y is)

true_stands : (o : Option ℕ) (y : ℕ) → o ≡ Some y → stands o y ≡ true
true_stands None y is = absurd (none-some y is)
true_stands (Some b) y is = eq-eqb b y (same_Some b y is)

pub get-edited : (ls : Links) (o : Option ℕ) (f : Link → Link) (y : ℕ) → slice_get (edited ls o f) y ≡ (if stands o y then each f (slice_get ls y) else slice_get ls y)
get-edited ls None f y = refl
get-edited ls (Some b) f y =
    elim (cases_eq b y) as (λ _. slice_get (edited ls (Some b) f) y ≡ (if stands (Some b) y then each f (slice_get ls y) else slice_get ls y)) [
      | inl e ↦
          ap (slice_get (edited ls (Some b) f)) (sym e) ∙ here ∙ ap (λ k. each f (slice_get ls k)) e
          ∙ sym (cond-true (b == y) (each f (slice_get ls y)) (slice_get ls y) (eq-eqb b y e))
      | inr n ↦
          get-set_other ls b y (option_map f (get_or ls b None)) (λ e. n (sym e))
          ∙ sym (cond-false (b == y) (each f (slice_get ls y)) (slice_get ls y) (ne_eqb b y n))
    ]
  where
    here : slice_get (edited ls (Some b) f) b ≡ each f (slice_get ls b)
    here =
        elim (cases_lt b (length ls)) as (λ _. slice_get (edited ls (Some b) f) b ≡ each f (slice_get ls b)) [
          | inl lt ↦
              get-set_same ls b (option_map f (get_or ls b None)) lt ∙ sym (ap (each f) (slice_get-get_or ls b None lt))
          | inr ge ↦
              let long : length (set ls b (option_map f (get_or ls b None))) ≤ b = omega (arith, ge, length-set ls b (option_map f (get_or ls b None))) in
              slice_get_past (set ls b (option_map f (get_or ls b None))) b long ∙ sym (ap (each f) (slice_get_past ls b ge))
        ]

-- ---- a slab is skipped
abbrev pub skips : ℕ → Link → Link → Link
skips x lx l = record { list = l.list; previous = skipped x lx.previous l.previous; next = skipped x lx.next l.next }

-- every other link skips the slab
abbrev pub Skips : Links → Links → ℕ → Link → Type 0
Skips ls ls' x lx = (y : ℕ) → y ≢ x → slice_get ls' y ≡ each (skips x lx) (slice_get ls y)

agree : (b : Bool) (x : ℕ) (to o : Option ℕ) → (o ≡ Some x → b ≡ true) → (b ≡ true → o ≡ Some x) → (if b then to else o) ≡ skipped x to o
agree true x to o there back = sym (ap (skipped x to) (back refl) ∙ skipped_same x x to refl)
agree false x to None there back = refl
agree false x to (Some q) there back = sym (skipped_other x q to (λ e. both_ways false refl (there (ap (λ (n : ℕ). Some n) e))))

both_edits : (b c : Bool) (p n : Option ℕ) (x : ℕ) (lx : Link) (g : Slot)
    → ((l : Link) → g ≡ Some (Some l) → (if c then lx.previous else l.previous) ≡ skipped x lx.previous l.previous)
    → ((l : Link) → g ≡ Some (Some l) → (if b then lx.next else l.next) ≡ skipped x lx.next l.next)
    → (if c then each (precedes lx.previous) (if b then each (follows lx.next) g else g) else (if b then each (follows lx.next) g else g)) ≡ each (skips x lx) g
both_edits true true p n x lx None prev next = refl
both_edits true false p n x lx None prev next = refl
both_edits false true p n x lx None prev next = refl
both_edits false false p n x lx None prev next = refl
both_edits true true p n x lx (Some None) prev next = refl
both_edits true false p n x lx (Some None) prev next = refl
both_edits false true p n x lx (Some None) prev next = refl
both_edits false false p n x lx (Some None) prev next = refl
both_edits true true p n x lx (Some (Some l)) prev next = λ i. Some (Some (record { list = l.list; previous = prev l refl i; next = next l refl i }))
both_edits true false p n x lx (Some (Some l)) prev next = λ i. Some (Some (record { list = l.list; previous = prev l refl i; next = next l refl i }))
both_edits false true p n x lx (Some (Some l)) prev next = λ i. Some (Some (record { list = l.list; previous = prev l refl i; next = next l refl i }))
both_edits false false p n x lx (Some (Some l)) prev next = λ i. Some (Some (record { list = l.list; previous = prev l refl i; next = next l refl i }))

skips_all : (ls : Links) (all : AllEnds) (lists : Lists) (x : ℕ) (lx : Link) → AreChains ls all lists → At ls x lx → Skips ls (unlinked ls x lx) x lx
skips_all ls all lists x lx chains at y differs =
    get-set_other (with_previous (with_next ls lx.previous lx.next) lx.next lx.previous) x y None differs
    ∙ get-edited (with_next ls lx.previous lx.next) lx.next (precedes lx.previous) y
    ∙ ap (λ (g : Slot). if stands lx.next y then each (precedes lx.previous) g else g) (get-edited ls lx.previous (follows lx.next) y)
    ∙ both_edits (stands lx.previous y) (stands lx.next y) lx.previous lx.next x lx (slice_get ls y)
    (λ l here. agree (stands lx.next y) x lx.previous l.previous
    (λ back. true_stands lx.next y (previous_next ls all lists x y lx l chains at here back))
    (λ to. next_previous ls all lists x y lx l chains at here (stands_true lx.next y to)))
    (λ l here. agree (stands lx.previous y) x lx.next l.next
    (λ to. true_stands lx.previous y (next_previous ls all lists y x l lx chains here at to))
    (λ back. previous_next ls all lists y x l lx chains here at (stands_true lx.previous y back)))

-- ---- the lists then
front-without : (ls : Links) (k : ListName) (prev last : Option ℕ) (x : ℕ) (lx : Link) (xs : List ℕ) → At ls x lx → Linked ls k prev last xs → AreDistinct xs
    → skipped x lx.next (front xs) ≡ front (without x xs)
front-without ls k prev last x lx [] at linked distinct = refl
front-without ls k prev last x lx (c ∷ r) at linked distinct =
    elim (cases_eq c x) as (λ _. skipped x lx.next (Some c) ≡ front (without x (c ∷ r))) [
      | inl e ↦
          let out : among x r ≡ false = ap (λ n. among n r) (sym e) ∙ distinct.0 in
          skipped_same x c lx.next e ∙ next_at ls x c lx (record { list = k; previous = prev; next = front r }) at linked.0 (sym e)
          ∙ sym (ap front (without_skip x c r e ∙ without_none x r out))
      | inr n ↦ skipped_other x c lx.next n ∙ sym (ap front (without_keep x c r n))
    ]

linked-without : (ls ls' : Links) (k : ListName) (last : Option ℕ) (x : ℕ) (lx : Link) → At ls x lx → Skips ls ls' x lx
    → (prev : Option ℕ) (xs : List ℕ) → Linked ls k prev last xs → AreDistinct xs
    → Linked ls' k (skipped x lx.previous prev) (skipped x lx.previous last) (without x xs)
linked-without ls ls' k last x lx at skip prev [] linked distinct = ap (skipped x lx.previous) linked
linked-without ls ls' k last x lx at skip prev (a ∷ r) linked distinct =
    let rest = linked-without ls ls' k last x lx at skip (Some a) r linked.1 distinct.1 in
    elim (cases_eq a x) as (λ _. Linked ls' k (skipped x lx.previous prev) (skipped x lx.previous last) (without x (a ∷ r))) [
      | inl e ↦
          let is : lx.previous ≡ prev = previous_at ls x a lx (record { list = k; previous = prev; next = front r }) at linked.0 (sym e) in
          let from : skipped x lx.previous (Some a) ≡ skipped x lx.previous prev =
          skipped_same x a lx.previous e ∙ sym (skipped_itself x lx.previous) ∙ ap (skipped x lx.previous) is in
          subst (Linked ls' k (skipped x lx.previous prev) (skipped x lx.previous last)) (sym (without_skip x a r e))
          (subst (λ o. Linked ls' k o (skipped x lx.previous last) (without x r)) from rest)
      | inr n ↦
          subst (Linked ls' k (skipped x lx.previous prev) (skipped x lx.previous last)) (sym (without_keep x a r n)) (
            skip a n ∙ ap (each (skips x lx)) linked.0
                ∙ ap (λ (o : Option ℕ). Some (Some (record { list = k; previous = skipped x lx.previous prev; next = o })))
                (front-without ls k (Some a) last x lx r at linked.1 distinct.1),
            subst (λ o. Linked ls' k o (skipped x lx.previous last) (without x r)) (skipped_other x a lx.previous n) rest,
          )
    ]

-- a link that is there then was there before, in the same list
was_there : (x : ℕ) (lx m : Link) (g : Slot) → each (skips x lx) g ≡ Some (Some m) → (l : Link) × (g ≡ Some (Some l)) × (l.list ≡ m.list)
was_there x lx m None is = absurd (none-some (Some m) is)
was_there x lx m (Some None) is = absurd (none-some m (same_Some None (Some m) is))
was_there x lx m (Some (Some l)) is = (l, refl, ap (λ (n : Link). n.list) (same_Some (skips x lx l) m (same_Some (Some (skips x lx l)) (Some m) is)))

all_then : (ls ls' : Links) (k : ListName) (x : ℕ) (lx : Link) (xs : List ℕ) → Skips ls ls' x lx → slice_get ls' x ≡ Some None
    → ((y : ℕ) (l : Link) → At ls y l → l.list ≡ k → among y xs ≡ true)
    → (y : ℕ) (m : Link) → At ls' y m → m.list ≡ k → among y (without x xs) ≡ true
all_then ls ls' k x lx xs skip loose all y m at is =
    elim (cases_eq y x) as (λ _. among y (without x xs) ≡ true) [
      | inl e ↦ absurd (none-some m (same_Some None (Some m) (sym loose ∙ ap (slice_get ls') (sym e) ∙ at)))
      | inr n ↦
          let before = was_there x lx m (slice_get ls y) (sym (skip y n) ∙ at) in
          among-without_other x y xs n ∙ all y before.0 before.1 (before.2 ∙ is)
    ]

-- a list that the slab is not in
not_in : (ls : Links) (k : ListName) (prev last : Option ℕ) (xs : List ℕ) (x : ℕ) (lx : Link) → Linked ls k prev last xs → At ls x lx → lx.list ≢ k → among x xs ≡ false
not_in ls k prev last xs x lx linked at differs =
    false_from_ne_true (among x xs) (λ is.
    let it = member ls k prev last xs x linked is in
    differs (list_at ls x x lx it.0 at it.1 refl ∙ it.2))

last_stays : (ls : Links) (k : ListName) (last : Option ℕ) (xs : List ℕ) (x : ℕ) (to : Option ℕ) → Linked ls k None last xs → among x xs ≡ false → skipped x to last ≡ last
last_stays ls k last xs x to linked out =
    elim (last_is ls k None last xs linked) as (λ _. skipped x to last ≡ last) [
      | inl e ↦ ap (skipped x to) e ∙ sym e
      | inr w ↦
          ap (skipped x to) w.1
          ∙ skipped_other x w.0 to (λ e. both_ways (among x xs) out (ap (λ n. among n xs) (sym e) ∙ w.2))
          ∙ sym w.1
    ]

pub gone_in : (x : ℕ) (lists : Lists) (k : ListName) → list_in (gone x lists) k ≡ without x (list_in lists k)
gone_in x lists Partial = refl
gone_in x lists Empty = refl
gone_in x lists Full = refl
gone_in x lists Retired = refl

chain_here : (ls ls' : Links) (k : ListName) (ends : Ends) (xs : List ℕ) (x : ℕ) (lx : Link) → IsChain ls k ends xs → At ls x lx → lx.list ≡ k
    → Skips ls ls' x lx → slice_get ls' x ≡ Some None → IsChain ls' k (shorter x lx ends) (without x xs)
chain_here ls ls' k ends xs x lx chain at is skip loose = record {
  first = ap (skipped x lx.next) chain.first ∙ front-without ls k None ends.last x lx xs at chain.linked chain.distinct;
  count = let less = length-without x xs chain.distinct (chain.all x lx at is) in omega (arith, chain.count, less);
  linked = linked-without ls ls' k ends.last x lx at skip None xs chain.linked chain.distinct;
  distinct = distinct-without x xs chain.distinct;
  all = all_then ls ls' k x lx xs skip loose chain.all;
}

chain_there : (ls ls' : Links) (k : ListName) (ends : Ends) (xs : List ℕ) (x : ℕ) (lx : Link) → IsChain ls k ends xs → At ls x lx → lx.list ≢ k
    → Skips ls ls' x lx → slice_get ls' x ≡ Some None → IsChain ls' k ends (without x xs)
chain_there ls ls' k ends xs x lx chain at differs skip loose =
    let out = not_in ls k None ends.last xs x lx chain.linked at differs in record {
      first = chain.first ∙ sym (ap front (without_none x xs out));
      count = chain.count ∙ sym (ap length (without_none x xs out));
      linked =
          subst (λ o. Linked ls' k None o (without x xs)) (last_stays ls k ends.last xs x lx.previous chain.linked out)
          (linked-without ls ls' k ends.last x lx at skip None xs chain.linked chain.distinct);
      distinct = distinct-without x xs chain.distinct;
      all = all_then ls ls' k x lx xs skip loose chain.all;
    }

pub length-edited : (ls : Links) (o : Option ℕ) (f : Link → Link) → length (edited ls o f) ≡ length ls
length-edited ls None f = refl
length-edited ls (Some b) f = length-set ls b (option_map f (get_or ls b None))

pub chains_without : (ls : Links) (all : AllEnds) (lists : Lists) (x : ℕ) (lx : Link) → AreChains ls all lists → x < length ls → At ls x lx
    → AreChains (unlinked ls x lx) (with_ends all lx.list (shorter x lx (ends_in all lx.list))) (gone x lists)
chains_without ls all lists x lx chains below at k =
    subst (IsChain (unlinked ls x lx) k (ends_in (with_ends all lx.list (shorter x lx (ends_in all lx.list))) k)) (sym (gone_in x lists k))
    (elim (cases_name k lx.list) as (λ _. IsChain (unlinked ls x lx) k (ends_in (with_ends all lx.list (shorter x lx (ends_in all lx.list))) k) (without x (list_in lists k))) [
      | inl e ↦
          subst (λ ends. IsChain (unlinked ls x lx) k ends (without x (list_in lists k)))
          (sym (ap (ends_in (with_ends all lx.list (shorter x lx (ends_in all lx.list)))) e ∙ ends_same all lx.list (shorter x lx (ends_in all lx.list)) ∙ ap (λ j. shorter x lx (ends_in all j)) (sym e)))
          (chain_here ls (unlinked ls x lx) k (ends_in all k) (list_in lists k) x lx (chains k) at (sym e) skip loose)
      | inr n ↦
          subst (λ ends. IsChain (unlinked ls x lx) k ends (without x (list_in lists k))) (sym (ends_other all k lx.list (shorter x lx (ends_in all lx.list)) n))
          (chain_there ls (unlinked ls x lx) k (ends_in all k) (list_in lists k) x lx (chains k) at (λ e. n (sym e)) skip loose)
    ])
  where
    skip : Skips ls (unlinked ls x lx) x lx
    skip = skips_all ls all lists x lx chains at

    long : length (with_previous (with_next ls lx.previous lx.next) lx.next lx.previous) ≡ length ls
    long = length-edited (with_next ls lx.previous lx.next) lx.next (precedes lx.previous) ∙ length-edited ls lx.previous (follows lx.next)

    loose : slice_get (unlinked ls x lx) x ≡ Some None
    loose = get-set_same (with_previous (with_next ls lx.previous lx.next) lx.next lx.previous) x None (omega (arith, long, below))
