-- The links of lists: whose member has which link, and neighbours point at one another.
use Rattle.std.proofs.Common.{◌≡◌, ℕ, ◌⊎◌, inl, inr, true, false, List, [], ◌∷◌, length, refl, sym, ap, ◌∙◌}
use Rattle.std.proofs.lemmas.Bool.{cases_eq, both_ways}
use Rattle.std.proofs.lemmas.Option.{none-some, same_Some}
use Rattle.std.specs.Prelude.{Option, Some, None, slice_get}
use Rattle.hm_slab_lists.specs.declared.slab.Link.{Link}
use Rattle.hm_slab_lists.specs.declared.slab.ListName.{ListName}
use Rattle.hm_slab_lists.specs.declared.ends.AllEnds.{AllEnds}
use Rattle.hm_slab_lists.specs.Links.{Links, front, next_of, walk, Linked, AreChains}
use Rattle.hm_base.specs.Members.{among}
use Rattle.hm_slab_lists.specs.Lists.{Lists, list_in}
use Rattle.hm_base.proofs.Members.{among_head, among_tail, among_cases}

abbrev pub At : Links → ℕ → Link → Type 0
At ls x l = slice_get ls x ≡ Some (Some l)

abbrev pub previous_of : Option (Option Link) → Option ℕ
previous_of None = None
previous_of (Some None) = None
previous_of (Some (Some l)) = l.previous

list_of : ListName → Option (Option Link) → ListName
list_of k None = k
list_of k (Some None) = k
list_of k (Some (Some l)) = l.list

pub next_at : (ls : Links) (x y : ℕ) (l m : Link) → At ls x l → At ls y m → x ≡ y → l.next ≡ m.next
next_at ls x y l m at_x at_y e = ap next_of (sym at_x ∙ ap (slice_get ls) e ∙ at_y)

pub previous_at : (ls : Links) (x y : ℕ) (l m : Link) → At ls x l → At ls y m → x ≡ y → l.previous ≡ m.previous
previous_at ls x y l m at_x at_y e = ap previous_of (sym at_x ∙ ap (slice_get ls) e ∙ at_y)

pub list_at : (ls : Links) (x y : ℕ) (l m : Link) → At ls x l → At ls y m → x ≡ y → l.list ≡ m.list
unfolding list_of
list_at ls x y l m at_x at_y e = ap (list_of l.list) (sym at_x ∙ ap (slice_get ls) e ∙ at_y)

-- the list is what following `next` gives
pub walk_is : (ls : Links) (k : ListName) (prev last : Option ℕ) (xs : List ℕ) → Linked ls k prev last xs → walk ls (length xs) (front xs) ≡ xs
walk_is ls k prev last [] linked = refl
walk_is ls k prev last (x ∷ xs) linked =
    ap (λ (l : List ℕ). x ∷ l) (ap (λ o. walk ls (length xs) (next_of o)) linked.0 ∙ walk_is ls k (Some x) last xs linked.1)

-- a member's link names the list
pub member : (ls : Links) (k : ListName) (prev last : Option ℕ) (xs : List ℕ) (y : ℕ) → Linked ls k prev last xs → among y xs ≡ true
    → (l : Link) × At ls y l × (l.list ≡ k)
member ls k prev last [] y linked is = absurd (both_ways false refl is)
member ls k prev last (x ∷ xs) y linked is =
    elim (among_cases y x xs is) as (λ _. (l : Link) × At ls y l × (l.list ≡ k)) [
      | inl e ↦ (record { list = k; previous = prev; next = front xs }, ap (slice_get ls) (sym e) ∙ linked.0, refl)
      | inr in_rest ↦ member ls k (Some x) last xs y linked.1 in_rest
    ]

-- a member of the rest is one of the whole
pub in_more : (z x : ℕ) (xs : List ℕ) → among z xs ≡ true → among z (x ∷ xs) ≡ true
in_more z x xs is = elim (cases_eq x z) as (λ _. among z (x ∷ xs) ≡ true) [ inl e ↦ among_head z x xs e | inr n ↦ among_tail z x xs n ∙ is ]

-- the last is a member, or what precedes the first
pub last_is : (ls : Links) (k : ListName) (prev last : Option ℕ) (xs : List ℕ) → Linked ls k prev last xs
    → (last ≡ prev) ⊎ ((z : ℕ) × (last ≡ Some z) × (among z xs ≡ true))
last_is ls k prev last [] linked = inl linked
last_is ls k prev last (x ∷ xs) linked =
    elim (last_is ls k (Some x) last xs linked.1) as (λ _. (last ≡ prev) ⊎ ((z : ℕ) × (last ≡ Some z) × (among z (x ∷ xs) ≡ true))) [
      | inl e ↦ inr (x, e, among_head x x xs refl)
      | inr w ↦ inr (w.0, w.1, in_more w.0 x xs w.2)
    ]

next_previous_in : (ls : Links) (k : ListName) (prev last : Option ℕ) (xs : List ℕ) (y z : ℕ) (l m : Link) → Linked ls k prev last xs → among y xs ≡ true
    → At ls y l → At ls z m → l.next ≡ Some z → m.previous ≡ Some y
next_previous_in ls k prev last [] y z l m linked is at_y at_z to = absurd (both_ways false refl is)
next_previous_in ls k prev last (a ∷ []) y z l m linked is at_y at_z to =
    elim (among_cases y a [] is) as (λ _. m.previous ≡ Some y) [
      | inl e ↦ absurd (none-some z (sym (next_at ls y a l (record { list = k; previous = prev; next = None }) at_y linked.0 (sym e)) ∙ to))
      | inr in_rest ↦ absurd (both_ways false refl in_rest)
    ]
next_previous_in ls k prev last (a ∷ c ∷ r) y z l m linked is at_y at_z to =
    elim (among_cases y a (c ∷ r) is) as (λ _. m.previous ≡ Some y) [
      | inl e ↦
          let next : Some c ≡ Some z = sym (next_at ls y a l (record { list = k; previous = prev; next = Some c }) at_y linked.0 (sym e)) ∙ to in
          previous_at ls z c m (record { list = k; previous = Some a; next = front r }) at_z linked.1.0 (sym (same_Some c z next)) ∙ ap (λ (n : ℕ). Some n) e
      | inr in_rest ↦ next_previous_in ls k (Some a) last (c ∷ r) y z l m linked.1 in_rest at_y at_z to
    ]

previous_next_in : (ls : Links) (k : ListName) (last : Option ℕ) (r : List ℕ) (a y z : ℕ) (la l m : Link) → At ls a la → la.next ≡ front r
    → Linked ls k (Some a) last r → among z r ≡ true → At ls y l → At ls z m → m.previous ≡ Some y → l.next ≡ Some z
previous_next_in ls k last [] a y z la l m at_a to linked is at_y at_z back = absurd (both_ways false refl is)
previous_next_in ls k last (c ∷ r) a y z la l m at_a to linked is at_y at_z back =
    elim (among_cases z c r is) as (λ _. l.next ≡ Some z) [
      | inl e ↦
          let same : Some a ≡ Some y = sym (previous_at ls z c m (record { list = k; previous = Some a; next = front r }) at_z linked.0 (sym e)) ∙ back in
          next_at ls y a l la at_y at_a (sym (same_Some a y same)) ∙ to ∙ ap (λ (n : ℕ). Some n) e
      | inr in_rest ↦
          previous_next_in ls k last r c y z (record { list = k; previous = Some a; next = front r }) l m linked.0 refl linked.1 in_rest at_y at_z back
    ]

previous_next_top : (ls : Links) (k : ListName) (last : Option ℕ) (xs : List ℕ) (y z : ℕ) (l m : Link) → Linked ls k None last xs → among z xs ≡ true
    → At ls y l → At ls z m → m.previous ≡ Some y → l.next ≡ Some z
previous_next_top ls k last [] y z l m linked is at_y at_z back = absurd (both_ways false refl is)
previous_next_top ls k last (a ∷ r) y z l m linked is at_y at_z back =
    elim (among_cases z a r is) as (λ _. l.next ≡ Some z) [
      | inl e ↦ absurd (none-some y (sym (previous_at ls z a m (record { list = k; previous = None; next = front r }) at_z linked.0 (sym e)) ∙ back))
      | inr in_rest ↦ previous_next_in ls k last r a y z (record { list = k; previous = None; next = front r }) l m linked.0 refl linked.1 in_rest at_y at_z back
    ]

-- neighbours point at one another
pub next_previous : (ls : Links) (all : AllEnds) (lists : Lists) (y z : ℕ) (l m : Link) → AreChains ls all lists → At ls y l → At ls z m
    → l.next ≡ Some z → m.previous ≡ Some y
next_previous ls all lists y z l m chains at_y at_z to =
    next_previous_in ls l.list None _ (list_in lists l.list) y z l m (chains l.list).linked ((chains l.list).all y l at_y refl) at_y at_z to

pub previous_next : (ls : Links) (all : AllEnds) (lists : Lists) (y z : ℕ) (l m : Link) → AreChains ls all lists → At ls y l → At ls z m
    → m.previous ≡ Some y → l.next ≡ Some z
previous_next ls all lists y z l m chains at_y at_z back =
    previous_next_top ls m.list _ (list_in lists m.list) y z l m (chains m.list).linked ((chains m.list).all z m at_z refl) at_y at_z back
