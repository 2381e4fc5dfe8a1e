-- The words from an index on.
use Rattle.std.proofs.Common.{◌≡◌, ⊎_elim, ℕ, ◌-◌, ◌<◌, ◌≤◌, min, List, length, map, take, drop, Bor, sym, ◌∙◌, ap, arith, length-drop}
use Rattle.std.proofs.lemmas.Bool.{cases_lt}
use Rattle.std.proofs.lemmas.List.{drop-map, drop_all, length-map, take_all}

from_index : (words : List (Bor (List ℕ))) (index n : ℕ) → n ≡ min index (length words)
    → map (λ (w : Bor (List ℕ)). w.now) (drop n words) ≡ drop index (map (λ (w : Bor (List ℕ)). w.now) words)
from_index words index n e =
    ⊎_elim
    (λ (lt : index < length words). ap (λ (k : ℕ). map (λ (w : Bor (List ℕ)). w.now) (drop k words)) (short index n (length words) e lt)
    ∙ sym (drop-map (λ (w : Bor (List ℕ)). w.now) index words))
    (λ (le : length words ≤ index). ap (map (λ (w : Bor (List ℕ)). w.now)) (drop_all n words (long index n (length words) e le))
    ∙ sym (drop_all index (map (λ (w : Bor (List ℕ)). w.now) words) (mapped words index le)))
    (cases_lt index (length words))
  where
    short : (index n len : ℕ) → n ≡ min index len → index < len → n ≡ index
    short index n len e lt = omega (arith, e, lt)

    long : (index n len : ℕ) → n ≡ min index len → len ≤ index → len ≤ n
    long index n len e le = omega (arith, e, le)

    mapped : (words : List (Bor (List ℕ))) (index : ℕ) → length words ≤ index
        → length (map (λ (w : Bor (List ℕ)). w.now) words) ≤ index
    mapped words index le = omega (arith, le, length-map words (λ (w : Bor (List ℕ)). w.now))

pub words_from : (words : List (Bor (List ℕ))) (index n : ℕ) → n ≡ min index (length words)
    → map (λ (w : Bor (List ℕ)). w.now) (take (length words - n) (drop n words))
    ≡ drop index (map (λ (w : Bor (List ℕ)). w.now) words)
words_from words index n e =
    ap (map (λ (w : Bor (List ℕ)). w.now))
    (take_all (length words - n) (drop n words) (omega (arith, length-drop n words)))
    ∙ from_index words index n e
