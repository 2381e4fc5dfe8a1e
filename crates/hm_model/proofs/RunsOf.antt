-- The runs that stand for given bytes.
use Rattle.std.proofs.Common.{◌≡◌, ℕ, ◌+◌, ◌<◌, ◌≤◌, false, eqb, List, [], ◌∷◌, ◌++◌, length, get_or, drop, replicate, refl, sym, ap, ◌∙◌, subst, arith, length-append, append_assoc, add-one, one-add}
use Rattle.std.specs.List.{prefix_len}
use Rattle.std.proofs.lemmas.Bool.{cond_both, eqb-true, eqb-false, eq-eqb, cond-true}
use Rattle.std.proofs.lemmas.List.{length-replicate, drop_more, drop-drop}
use Rattle.hm_model.specs.Runs.{expand, total, with_byte, runs_of, AreApart}

-- they stand for as many bytes as they say
pub length_expand : (runs : List (ℕ × ℕ)) → length (expand runs) ≡ total runs
length_expand [] = refl
length_expand (run ∷ runs) = length-append (replicate run.1 run.0) (expand runs) ∙ (ap (λ n. n + length (expand runs)) (length-replicate run.1 run.0) ∙ ap (λ n. run.1 + n) (length_expand runs))

expand_with : (byte : ℕ) (runs : List (ℕ × ℕ)) → expand (with_byte byte runs) ≡ byte ∷ expand runs
expand_with byte [] = refl
expand_with byte (run ∷ runs) =
    cond_both (eqb run.0 byte) ((byte, run.1 + 1) ∷ runs) ((byte, 1) ∷ run ∷ runs) (λ l. expand l ≡ byte ∷ expand (run ∷ runs))
    (λ e. longer run.1 (eqb-true run.0 byte e)) (λ e. refl)
  where
    longer : (n : ℕ) → run.0 ≡ byte → replicate (n + 1) byte ++ expand runs ≡ byte ∷ (replicate n run.0 ++ expand runs)
    longer n e = ap (λ m. replicate m byte ++ expand runs) (add-one n) ∙ ap (λ b. byte ∷ (replicate n b ++ expand runs)) (sym e)

-- they stand for those bytes
pub expand_runs_of : (bytes : List ℕ) → expand (runs_of bytes) ≡ bytes
expand_runs_of [] = refl
expand_runs_of (b ∷ bs) = expand_with b (runs_of bs) ∙ ap (λ l. b ∷ l) (expand_runs_of bs)

pub total_runs_of : (bytes : List ℕ) → total (runs_of bytes) ≡ length bytes
total_runs_of bytes = sym (length_expand (runs_of bytes)) ∙ ap length (expand_runs_of bytes)

apart_with : (byte : ℕ) (runs : List (ℕ × ℕ)) → AreApart runs → AreApart (with_byte byte runs)
apart_with byte [] h = omega arith
apart_with byte (run ∷ []) h =
    cond_both (eqb run.0 byte) ((byte, run.1 + 1) ∷ []) ((byte, 1) ∷ run ∷ []) AreApart
    (λ e. (let r : 1 ≤ run.1 + 1 = omega arith in r)) (λ e. (omega arith, (λ same. eqb-false run.0 byte e (sym same)), h))
apart_with byte (run ∷ next ∷ runs) h =
    cond_both (eqb run.0 byte) ((byte, run.1 + 1) ∷ next ∷ runs) ((byte, 1) ∷ run ∷ next ∷ runs) AreApart
    (λ e. (omega arith, (λ same. h.1 (eqb-true run.0 byte e ∙ same)), h.2)) (λ e. (omega arith, (λ same. eqb-false run.0 byte e (sym same)), h))

-- no run is empty, and neighbours are different
pub apart_runs_of : (bytes : List ℕ) → AreApart (runs_of bytes)
apart_runs_of [] = tt
apart_runs_of (b ∷ bs) = apart_with b (runs_of bs) (apart_runs_of bs)

-- how many bytes in front are this one
abbrev pub in_front : ℕ → List ℕ → ℕ
in_front byte bytes = prefix_len (λ b. eqb b byte) bytes

-- the first run is as long as it can be
pub runs_of_cut : (byte : ℕ) (bytes : List ℕ) → runs_of (byte ∷ bytes) ≡ (byte, 1 + in_front byte bytes) ∷ runs_of (drop (in_front byte bytes) bytes)
runs_of_cut byte [] = refl
runs_of_cut byte (b ∷ bs) =
    let later = runs_of_cut b bs in
    ap (with_byte byte) later ∙ cond_both (eqb b byte) (1 + in_front byte bs) 0
    (λ n. with_byte byte ((b, 1 + in_front b bs) ∷ runs_of (drop (in_front b bs) bs)) ≡ (byte, 1 + n) ∷ runs_of (drop n (b ∷ bs)))
    (λ e. joins (eqb-true b byte e)) (λ e. parts e later)
  where
    joins : b ≡ byte → with_byte byte ((b, 1 + in_front b bs) ∷ runs_of (drop (in_front b bs) bs)) ≡ (byte, 1 + (1 + in_front byte bs)) ∷ runs_of (drop (1 + in_front byte bs) (b ∷ bs))
    joins e =
        let P : ℕ → Type 0 = λ c. with_byte c ((b, 1 + in_front b bs) ∷ runs_of (drop (in_front b bs) bs)) ≡ (c, 1 + (1 + in_front c bs)) ∷ runs_of (drop (1 + in_front c bs) (b ∷ bs)) in
        subst P e (own b refl)
      where
        own : (c : ℕ) → c ≡ b → with_byte b ((b, 1 + in_front b bs) ∷ runs_of (drop (in_front b bs) bs)) ≡ (b, 1 + (1 + in_front b bs)) ∷ runs_of (drop (1 + in_front b bs) (b ∷ bs))
        own c same = rw (eq-eqb b b refl, one-add (in_front b bs)) (ap (λ n. (b, n) ∷ runs_of (drop (in_front b bs) bs)) (omega arith))

    parts : eqb b byte ≡ false → runs_of (b ∷ bs) ≡ (b, 1 + in_front b bs) ∷ runs_of (drop (in_front b bs) bs) → with_byte byte ((b, 1 + in_front b bs) ∷ runs_of (drop (in_front b bs) bs)) ≡ (byte, 1) ∷ runs_of (b ∷ bs)
    parts e later = rw e (ap (λ l. (byte, 1) ∷ l) (sym later))

-- where runs stand before the rest, the first run of the rest is taken over to them
pub runs_taken : (pairs new : List (ℕ × ℕ)) (bytes : List ℕ) (start byte len : ℕ) → start < length bytes → byte ≡ get_or bytes start 0 → len ≡ in_front byte (drop start bytes)
    → new ≡ pairs ++ (byte, len) ∷ [] → pairs ++ runs_of (drop start bytes) ≡ runs_of bytes → new ++ runs_of (drop (start + len) bytes) ≡ runs_of bytes
runs_taken pairs new bytes start byte len below is count news before =
    let r = drop (start + 1) bytes in
    let n = in_front byte r in
    let split : drop start bytes ≡ byte ∷ r = drop_more bytes start 0 below ∙ ap (λ b. b ∷ r) (sym is) in
    let counted : len ≡ 1 + n = count ∙ (ap (in_front byte) split ∙ cond-true (eqb byte byte) (1 + n) 0 (eq-eqb byte byte refl)) in
    let later : drop (start + len) bytes ≡ drop n r = ap (λ k. drop k bytes) (omega (arith, counted)) ∙ sym (drop-drop n (start + 1) bytes) in
    let cut : runs_of (drop start bytes) ≡ (byte, len) ∷ runs_of (drop n r) = ap runs_of split ∙ (runs_of_cut byte r ∙ ap (λ k. (byte, k) ∷ runs_of (drop n r)) (sym counted)) in
    ap (λ l. l ++ runs_of (drop (start + len) bytes)) news ∙ (append_assoc pairs ((byte, len) ∷ []) (runs_of (drop (start + len) bytes)) ∙ (ap (λ l. pairs ++ (byte, len) ∷ runs_of l) later ∙ (ap (λ l. pairs ++ l) (sym cut) ∙ before)))
