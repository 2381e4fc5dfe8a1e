-- Open slabs that differ in some bytes alone.
use Rattle.std.proofs.Common.{◌≡◌, ◌⊎◌, inl, inr, ⊎_elim, ℕ, suc, ◌+◌, ◌-◌, ◌<◌, ◌≤◌, ◌==◌, Bool, true, false, cond, not, nat_lt, List, [], ◌∷◌, length, get_or, take, drop, Option, Some, None, unwrap_or, sym, ◌∙◌, ap, subst, refl, arith}
use Rattle.std.specs.Prelude.{slice_get, ⊤}
use Rattle.std.proofs.lemmas.Bool.{cases_lt}
use Rattle.std.proofs.lemmas.Bool.Decides.{nat_tests}
use Rattle.std.proofs.lemmas.List.{length-take, length-drop}
use Rattle.std.proofs.lemmas.Option.{none-some, same_Some, slice_get_past, slice_get-get_or}
use Rattle.hm_model.specs.Maps.{at, removed, put, keys}
use Rattle.hm_model.specs.Overlaid.{overlaid}
use Rattle.hm_model.proofs.Lists.{eq_same}
use Rattle.hm_model.proofs.Overlaid.{length_overlaid}
use Rattle.hm_sizes.specs.declared.shape.Shape.{Shape}
use Rattle.hm_sizes.specs.Shapes.{slab_at}
use Rattle.hm_class_rules.specs.State.{Slab}
use Rattle.hm_class_rules.specs.Bytes.{overlaid_slabs}
use Rattle.hm_class_rules.proofs.Zeroed.{get_take, get_drop}
use Rattle.hm_guarantees.proofs.Bytes.{over_byte, outside, get_over}

-- a byte at q may differ where W q
pub record AlikeSlab (p : Shape) (W : ℕ → Type 0) (e f : ℕ × Slab) : Type 0 where
  pub number : e.0 ≡ f.0
  pub canary : e.1.canary ≡ f.1.canary
  pub count : length e.1.bytes ≡ length f.1.bytes
  pub each : (r : ℕ) → (W (slab_at p e.0 + r) → ⊥) → slice_get e.1.bytes r ≡ slice_get f.1.bytes r

abbrev pub AlikeSlabs : Shape → (ℕ → Type 0) → List (ℕ × Slab) → List (ℕ × Slab) → Type 0
AlikeSlabs p W [] [] = ⊤
AlikeSlabs p W [] (f ∷ l) = ⊥
AlikeSlabs p W (e ∷ m) [] = ⊥
AlikeSlabs p W (e ∷ m) (f ∷ l) = AlikeSlab p W e f × AlikeSlabs p W m l

-- ---- bytes written over both
covered : (x base r was other : ℕ) (w : List ℕ) → x ≤ base + r → base + r < x + length w → over_byte x w (base + r) was ≡ over_byte x w (base + r) other
covered x base r was other w low high = here
  where
    past : (x q : ℕ) → x ≤ q → nat_lt q x ≡ false
    past x q le = grind (arith, nat_tests)

    one : (was : ℕ) → over_byte x w (base + r) was ≡ get_or w (base + r - x) 0
    one was =
        ap (λ (b : Bool). unwrap_or (cond b None (slice_get w (base + r - x))) was) (past x (base + r) low)
        ∙ ap (λ (o : Option ℕ). unwrap_or o was) (slice_get-get_or w (base + r - x) 0 (omega (arith, low, high)))

    here : over_byte x w (base + r) was ≡ over_byte x w (base + r) other
    here = one was ∙ sym (one other)

-- a byte that was the same, or is written
over_same : (x : ℕ) (w : List ℕ) (base r : ℕ) (b c : List ℕ) → length b ≡ length c → (slice_get b r ≡ slice_get c r) ⊎ ((x ≤ base + r) × (base + r < x + length w)) → slice_get (overlaid x w base b) r ≡ slice_get (overlaid x w base c) r
over_same x w base r b c count same = by (cases_lt r (length b))
  where
    by : (r < length b) ⊎ (length b ≤ r) → slice_get (overlaid x w base b) r ≡ slice_get (overlaid x w base c) r
    by (inr past) = slice_get_past (overlaid x w base b) r (omega (arith, past, length_overlaid x w base b)) ∙ sym (slice_get_past (overlaid x w base c) r (omega (arith, past, count, length_overlaid x w base c)))
    by (inl lt) =
        let y : ℕ = get_or b r 0 in
        let z : ℕ = get_or c r 0 in
        let first : slice_get b r ≡ Some y = slice_get-get_or b r 0 lt in
        let second : slice_get c r ≡ Some z = slice_get-get_or c r 0 (omega (arith, lt, count)) in
        get_over x w base r (base + r) b y refl first
        ∙ ⊎_elim
        (λ e. ap (λ (v : ℕ). Some (over_byte x w (base + r) v)) (same_Some y z (sym first ∙ e ∙ second)))
        (λ in_w. ap (λ (v : ℕ). Some v) (covered x base r y z w in_w.0 in_w.1))
        same
        ∙ sym (get_over x w base r (base + r) c z refl second)

-- a byte that was the same, and is not written
over_outside : (x : ℕ) (w v : List ℕ) (base r : ℕ) (b c : List ℕ) → length b ≡ length c → length v ≡ length w → slice_get b r ≡ slice_get c r → (base + r < x) ⊎ (x + length w ≤ base + r) → slice_get (overlaid x w base b) r ≡ slice_get (overlaid x v base c) r
over_outside x w v base r b c count len same out = by (cases_lt r (length b))
  where
    also : (base + r < x) ⊎ (x + length w ≤ base + r) → (base + r < x) ⊎ (x + length v ≤ base + r)
    also (inl l) = inl l
    also (inr g) = inr (omega (arith, g, len))

    by : (r < length b) ⊎ (length b ≤ r) → slice_get (overlaid x w base b) r ≡ slice_get (overlaid x v base c) r
    by (inr past) = slice_get_past (overlaid x w base b) r (omega (arith, past, length_overlaid x w base b)) ∙ sym (slice_get_past (overlaid x v base c) r (omega (arith, past, count, length_overlaid x v base c)))
    by (inl lt) =
        let y : ℕ = get_or b r 0 in
        let first : slice_get b r ≡ Some y = slice_get-get_or b r 0 lt in
        get_over x w base r (base + r) b y refl first
        ∙ ap (λ (z : ℕ). Some z) (outside x (base + r) y w out ∙ sym (outside x (base + r) y v (also out)))
        ∙ sym (get_over x v base r (base + r) c y refl (sym same ∙ first))

-- ---- slabs
module _ (p : Shape) (W : ℕ → Type 0) where
  pub alike_own : (m : List (ℕ × Slab)) → AlikeSlabs p W m m
  alike_own [] = tt
  alike_own (e ∷ m) = (record { number = refl; canary = refl; count = refl; each = λ r out. refl }, alike_own m)

  alike_back : (e f : ℕ × Slab) → AlikeSlab p W e f → AlikeSlab p W f e
  alike_back e f h = record {
    number = sym h.number;
    canary = sym h.canary;
    count = sym h.count;
    each = λ r out. sym (h.each r (subst (λ (n : ℕ). W (slab_at p n + r) → ⊥) (sym h.number) out));
  }

  pub alike_sym : (m l : List (ℕ × Slab)) → AlikeSlabs p W m l → AlikeSlabs p W l m
  alike_sym [] [] h = tt
  alike_sym [] (f ∷ l) h = absurd h
  alike_sym (e ∷ m) [] h = absurd h
  alike_sym (e ∷ m) (f ∷ l) h = (alike_back e f h.0, alike_sym m l h.1)

  pub alike_keys : (m l : List (ℕ × Slab)) → AlikeSlabs p W m l → keys m ≡ keys l
  alike_keys [] [] h = refl
  alike_keys [] (f ∷ l) h = absurd h
  alike_keys (e ∷ m) [] h = absurd h
  alike_keys (e ∷ m) (f ∷ l) h = λ i. h.0.number i ∷ alike_keys m l h.1 i

  pub record AlikeAt (l : List (ℕ × Slab)) (n : ℕ) (b : Slab) : Type 0 where
    pub slab : Slab
    pub there : at n l ≡ Some slab
    pub alike : AlikeSlab p W (n, b) (n, slab)

  pub alike_at : (m l : List (ℕ × Slab)) (n : ℕ) (b : Slab) → AlikeSlabs p W m l → at n m ≡ Some b → AlikeAt l n b
  alike_at [] [] n b h e = absurd (none-some b e)
  alike_at [] (f ∷ l) n b h e = absurd h
  alike_at (e ∷ m) [] n b h is = absurd h
  alike_at (e ∷ m) (f ∷ l) n b h is =
      elim (e.0 == n) as (λ t. (e.0 == n) ≡ t → cond t (Some e.1) (at n m) ≡ Some b → AlikeAt (f ∷ l) n b) [
        | true ↦ λ key on. (let same : e.1 ≡ b = same_Some e.1 b on in let at_n : e.0 ≡ n = eq_same e.0 n key in record {
          slab = f.1;
          there = ap (λ (t : Bool). cond t (Some f.1) (at n l)) (ap (λ (k : ℕ). k == n) (sym h.0.number) ∙ key);
          alike = record {
            number = refl;
            canary = ap (λ (x : Slab). x.canary) (sym same) ∙ h.0.canary;
            count = ap (λ (x : Slab). length x.bytes) (sym same) ∙ h.0.count;
            each = λ r out. ap (λ (x : Slab). slice_get x.bytes r) (sym same) ∙ h.0.each r (subst (λ (k : ℕ). W (slab_at p k + r) → ⊥) (sym at_n) out);
          };
        })
        | false ↦ λ key on. (let rest = alike_at m l n b h.1 on in record {
          slab = rest.slab;
          there = ap (λ (t : Bool). cond t (Some f.1) (at n l)) (ap (λ (k : ℕ). k == n) (sym h.0.number) ∙ key) ∙ rest.there;
          alike = rest.alike;
        })
      ] refl is

  pub alike_removed : (k : ℕ) (m l : List (ℕ × Slab)) → AlikeSlabs p W m l → AlikeSlabs p W (removed k m) (removed k l)
  alike_removed k [] [] h = tt
  alike_removed k [] (f ∷ l) h = absurd h
  alike_removed k (e ∷ m) [] h = absurd h
  alike_removed k (e ∷ m) (f ∷ l) h =
      let rest = alike_removed k m l h.1 in
      let other : (f.0 == k) ≡ (e.0 == k) = ap (λ (n : ℕ). n == k) (sym h.0.number) in
      subst (λ (t : Bool). AlikeSlabs p W (removed k (e ∷ m)) (cond (not t) (f ∷ removed k l) (removed k l))) (sym other)
      (elim (e.0 == k) as (λ t. AlikeSlabs p W (cond (not t) (e ∷ removed k m) (removed k m)) (cond (not t) (f ∷ removed k l) (removed k l))) [ true ↦ rest | false ↦ (h.0, rest) ])

  pub alike_put : (k : ℕ) (b : Slab) (m l : List (ℕ × Slab)) → AlikeSlabs p W m l → AlikeSlabs p W (put k b m) (put k b l)
  alike_put k b m l h = (record { number = refl; canary = refl; count = refl; each = λ r out. refl }, alike_removed k m l h)

  -- the same is written over both: what may differ then, may have differed, and is not written
  pub alike_write : (V : ℕ → Type 0) (x : ℕ) (w : List ℕ) (m l : List (ℕ × Slab)) → ((q : ℕ) → (V q → ⊥) → (W q → ⊥) ⊎ ((x ≤ q) × (q < x + length w)))
      → AlikeSlabs p W m l → AlikeSlabs p V (overlaid_slabs p x w m) (overlaid_slabs p x w l)
  alike_write V x w [] [] split h = tt
  alike_write V x w [] (f ∷ l) split h = absurd h
  alike_write V x w (e ∷ m) [] split h = absurd h
  alike_write V x w (e ∷ m) (f ∷ l) split h = (
    record {
      number = h.0.number;
      canary = h.0.canary;
      count = length_overlaid x w (slab_at p e.0) e.1.bytes ∙ h.0.count ∙ sym (length_overlaid x w (slab_at p f.0) f.1.bytes);
      each = λ r out.
          ⊎_elim
          (λ none. over_same x w (slab_at p e.0) r e.1.bytes f.1.bytes h.0.count (inl (h.0.each r none)))
          (λ in_w. over_same x w (slab_at p e.0) r e.1.bytes f.1.bytes h.0.count (inr in_w))
          (split (slab_at p e.0 + r) out)
          ∙ ap (λ (n : ℕ). slice_get (overlaid x w (slab_at p n) f.1.bytes) r) h.0.number;
    },
    alike_write V x w m l split h.1,
  )

  -- two lists of bytes are written over bytes that may differ
  pub alike_writes : (x : ℕ) (w v : List ℕ) (m l : List (ℕ × Slab)) → length v ≡ length w → ((q : ℕ) → x ≤ q → q < x + length w → W q)
      → AlikeSlabs p W m l → AlikeSlabs p W (overlaid_slabs p x w m) (overlaid_slabs p x v l)
  alike_writes x w v [] [] len inside h = tt
  alike_writes x w v [] (f ∷ l) len inside h = absurd h
  alike_writes x w v (e ∷ m) [] len inside h = absurd h
  alike_writes x w v (e ∷ m) (f ∷ l) len inside h = (
    record {
      number = h.0.number;
      canary = h.0.canary;
      count = length_overlaid x w (slab_at p e.0) e.1.bytes ∙ h.0.count ∙ sym (length_overlaid x v (slab_at p f.0) f.1.bytes);
      each = λ r out.
          over_outside x w v (slab_at p e.0) r e.1.bytes f.1.bytes h.0.count len (h.0.each r out) (apart (slab_at p e.0 + r) out)
          ∙ ap (λ (n : ℕ). slice_get (overlaid x v (slab_at p n) f.1.bytes) r) h.0.number;
    },
    alike_writes x w v m l len inside h.1,
  )
    where
      apart : (q : ℕ) → (W q → ⊥) → (q < x) ⊎ (x + length w ≤ q)
      apart q out = ⊎_elim (λ lt. inl lt) (λ ge. ⊎_elim (λ lt. absurd (out (inside q ge lt))) (λ past. inr past) (cases_lt q (x + length w))) (cases_lt q x)

  pub alike_over : (x : ℕ) (w : List ℕ) (m : List (ℕ × Slab)) → ((q : ℕ) → x ≤ q → q < x + length w → W q) → AlikeSlabs p W m (overlaid_slabs p x w m)
  alike_over x w [] inside = tt
  alike_over x w (e ∷ m) inside = (
    record {
      number = refl;
      canary = refl;
      count = sym (length_overlaid x w (slab_at p e.0) e.1.bytes);
      each = λ r out. sym (kept r (apart (slab_at p e.0 + r) out));
    },
    alike_over x w m inside,
  )
    where
      apart : (q : ℕ) → (W q → ⊥) → (q < x) ⊎ (x + length w ≤ q)
      apart q out = ⊎_elim (λ lt. inl lt) (λ ge. ⊎_elim (λ lt. absurd (out (inside q ge lt))) (λ past. inr past) (cases_lt q (x + length w))) (cases_lt q x)

      kept : (r : ℕ) → (slab_at p e.0 + r < x) ⊎ (x + length w ≤ slab_at p e.0 + r) → slice_get (overlaid x w (slab_at p e.0) e.1.bytes) r ≡ slice_get e.1.bytes r
      kept r out = by (cases_lt r (length e.1.bytes))
        where
          by : (r < length e.1.bytes) ⊎ (length e.1.bytes ≤ r) → slice_get (overlaid x w (slab_at p e.0) e.1.bytes) r ≡ slice_get e.1.bytes r
          by (inl lt) =
              let first = slice_get-get_or e.1.bytes r 0 lt in
              get_over x w (slab_at p e.0) r (slab_at p e.0 + r) e.1.bytes (get_or e.1.bytes r 0) refl first ∙ ap (λ (z : ℕ). Some z) (outside x (slab_at p e.0 + r) (get_or e.1.bytes r 0) w out) ∙ sym first
          by (inr past) = slice_get_past (overlaid x w (slab_at p e.0) e.1.bytes) r (omega (arith, past, length_overlaid x w (slab_at p e.0) e.1.bytes)) ∙ sym (slice_get_past e.1.bytes r past)

-- more may differ
pub alike_more : (p : Shape) (W V : ℕ → Type 0) (m l : List (ℕ × Slab)) → ((q : ℕ) → W q → V q) → AlikeSlabs p W m l → AlikeSlabs p V m l
alike_more p W V [] [] more h = tt
alike_more p W V [] (f ∷ l) more h = absurd h
alike_more p W V (e ∷ m) [] more h = absurd h
alike_more p W V (e ∷ m) (f ∷ l) more h =
    (record { number = h.0.number; canary = h.0.canary; count = h.0.count; each = λ r out. h.0.each r (λ w. out (more (slab_at p e.0 + r) w)) }, alike_more p W V m l more h.1)

-- ---- parts of their bytes
same_list : (xs ys : List ℕ) → length xs ≡ length ys → ((j : ℕ) → j < length xs → slice_get xs j ≡ slice_get ys j) → xs ≡ ys
same_list [] [] len each = refl
same_list [] (y ∷ ys) len each = absurd (omega (arith, len))
same_list (x ∷ xs) [] len each = absurd (omega (arith, len))
same_list (x ∷ xs) (y ∷ ys) len each =
    let rest : xs ≡ ys = same_list xs ys (omega (arith, len)) (λ j lt. each (suc j) (omega (arith, lt))) in
    let first : x ≡ y = same_Some x y (each 0 (omega arith)) in
    λ i. first i ∷ rest i

pub same_piece : (o len : ℕ) (b c : List ℕ) → length b ≡ length c → ((k : ℕ) → k < len → slice_get b (o + k) ≡ slice_get c (o + k)) → take len (drop o b) ≡ take len (drop o c)
same_piece o len b c count each =
    same_list (take len (drop o b)) (take len (drop o c))
    (omega (arith, length-take len (drop o b), length-drop o b, length-take len (drop o c), length-drop o c, count))
    (λ j lt. let low : j < len = omega (arith, lt, length-take len (drop o b)) in get_take len j (drop o b) low ∙ get_drop o j b ∙ each j low ∙ sym (get_take len j (drop o c) low ∙ get_drop o j c))
