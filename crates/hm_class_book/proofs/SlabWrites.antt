-- Writing over one slab after another.
use Rattle.std.proofs.Common.{◌≡◌, ℕ, zero, suc, ◌+◌, ◌<◌, List, [], ◌∷◌, ◌++◌, map, length, take, drop, get_or, sym, ◌∙◌, ap, refl, arith}
use Rattle.std.proofs.lemmas.List.{take_more, take_more_set, get_or-drop}
use lib.ListN.{set}
use lib.Seq.{drop-drop}
use Rattle.hm_sizes.specs.declared.shape.Shape.{Shape}
use Rattle.hm_class_rules.specs.Bytes.{overlaid_slabs}
use Rattle.hm_class_book.specs.declared.book.OpenSlab.{OpenSlab}
use Rattle.hm_class_book.specs.Book.{slab_pair, slabs_in, overlaid_slab}

map_more : {X Y : Type 0} (f : X → Y) (xs : List X) (x : X) → map f (xs ++ x ∷ []) ≡ map f xs ++ f x ∷ []
map_more f [] x = refl
map_more f (y ∷ xs) x = ap (λ l. f y ∷ l) (map_more f xs x)

drop_set : {X : Type 0} (xs : List X) (i : ℕ) (y : X) → drop (suc i) (set xs i y) ≡ drop (suc i) xs
drop_set [] i y = refl
drop_set (x ∷ xs) zero y = refl
drop_set (x ∷ xs) (suc i) y = drop_set xs i y

set_length : {X : Type 0} (xs : List X) (i : ℕ) (y : X) → length (set xs i y) ≡ length xs
set_length [] i y = refl
set_length (x ∷ xs) zero y = refl
set_length (x ∷ xs) (suc i) y = ap suc (set_length xs i y)

same_at : {X : Type 0} (xs ys : List X) (i : ℕ) (d : X) → drop i xs ≡ drop i ys → get_or xs i d ≡ get_or ys i d
same_at xs ys i d e =
    ap (λ (k : ℕ). get_or xs k d) (omega arith) ∙ sym (get_or-drop i xs 0 d) ∙ ap (λ l. get_or l 0 d) e ∙ get_or-drop i ys 0 d
    ∙ ap (λ (k : ℕ). get_or ys k d) (omega arith)

module _ (p : Shape) (a : ℕ) (w : List ℕ) (old new : List (ℕ × OpenSlab)) (i : ℕ) (d : ℕ × OpenSlab) (rest : drop i new ≡ drop i old)
    (len : length new ≡ length old) (lt : i < length old) where
  pub next_front : (e : ℕ × OpenSlab) → slabs_in (take i new) ≡ overlaid_slabs p a w (slabs_in (take i old)) → slab_pair e ≡ overlaid_slab p a w (slab_pair (get_or new i d))
      → slabs_in (take (i + 1) (set new i e)) ≡ overlaid_slabs p a w (slabs_in (take (i + 1) old))
  next_front e front one =
      ap slabs_in (take_more_set new i e (omega (arith, lt, len))) ∙ map_more slab_pair (take i new) e
      ∙ (λ k. front k ++ one k ∷ [])
      ∙ ap (λ (x : ℕ × OpenSlab). overlaid_slabs p a w (slabs_in (take i old)) ++ overlaid_slab p a w (slab_pair x) ∷ []) (same_at new old i d rest)
      ∙ sym (map_more (overlaid_slab p a w) (slabs_in (take i old)) (slab_pair (get_or old i d)))
      ∙ ap (overlaid_slabs p a w) (sym (map_more slab_pair (take i old) (get_or old i d)))
      ∙ ap (λ l. overlaid_slabs p a w (slabs_in l)) (sym (take_more old i d lt))

  pub next_rest : (e : ℕ × OpenSlab) → drop (i + 1) (set new i e) ≡ drop (i + 1) old
  next_rest e =
      let more : i + 1 ≡ suc i = omega arith in
      ap (λ (n : ℕ). drop n (set new i e)) more ∙ drop_set new i e ∙ ap (λ (n : ℕ). drop n new) (sym more)
      ∙ sym (drop-drop 1 i new) ∙ ap (drop 1) rest ∙ drop-drop 1 i old

  pub next_length : (e : ℕ × OpenSlab) → length (set new i e) ≡ length old
  next_length e = set_length new i e ∙ len
