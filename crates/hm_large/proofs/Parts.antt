-- A range is written part by part, where no run meets another.
use Rattle.std.proofs.Common.{◌≡◌, ◌≢◌, ⊎_elim, ℕ, zero, suc, ◌+◌, ◌-◌, ◌<◌, ◌≤◌, ◌==◌, Bool, true, false, cond, List, [], ◌∷◌, ◌++◌, length, take, drop, replicate, get_or, Option, Some, refl, sym, ap, ◌∙◌, subst, arith, append-nil, append_assoc, length-append, length-take, length-drop}
use Rattle.std.specs.FinMap as map
use Rattle.std.specs.FinMap.{get-insert, same_map, nat_cmp-IsAntisymmetric}
use Rattle.std.proofs.lemmas.Bool.{cases_eq}
use Rattle.std.proofs.lemmas.Cmp.{nat_cmp_total}
use Rattle.std.proofs.lemmas.List.{take_at, take-append-drop, length-replicate}
use Rattle.std.proofs.lemmas.Slice.{drop-append-drop}
use Rattle.std.proofs.lemmas.Option.{same_Some}
use Rattle.hm_model.specs.Runs.{expand, total}
use Rattle.hm_model.proofs.RunsOf.{length_expand}
use Rattle.hm_model.proofs.Lists.{same_eq, other_eq, eq_same}
use Rattle.hm_base.specs.Lists.{written}
use Rattle.hm_outside.specs.PageRuns.{PageRuns, Lies, Writes, IsHeld}
use Rattle.hm_large.specs.Access.{AreDisjoint}
use Rattle.hm_large_rules.proofs.SizeMaps.{map_test}

-- ---- maps
got : (runs : PageRuns) (q k : ℕ) (b : List ℕ) → map.get (map.insert runs q b) k ≡ cond (q == k) (Some b) (map.get runs k)
got runs q k b = get-insert nat_cmp_total runs q b k ∙ ap (λ (t : Bool). cond t (Some b) (map.get runs k)) (map_test k q)

same_runs : (one two : PageRuns) → ((k : ℕ) → map.get one k ≡ map.get two k) → one ≡ two
same_runs one two is = same_map nat_cmp_total nat_cmp-IsAntisymmetric one two is

insert_twice : (runs : PageRuns) (q : ℕ) (b d : List ℕ) → map.insert (map.insert runs q b) q d ≡ map.insert runs q d
insert_twice runs q b d = same_runs _ _ (λ k. got (map.insert runs q b) q k d ∙ ap (cond (q == k) (Some d)) (got runs q k b) ∙ shadow (q == k) (Some b) (map.get runs k) ∙ sym (got runs q k d))
  where
    shadow : (t : Bool) (x z : Option (List ℕ)) → cond t (Some d) (cond t x z) ≡ cond t (Some d) z
    shadow true x z = refl
    shadow false x z = refl

insert_same : (runs : PageRuns) (q : ℕ) (b : List ℕ) → map.get runs q ≡ Some b → map.insert runs q b ≡ runs
insert_same runs q b is = same_runs _ _ (λ k. got runs q k b ∙ there k (q == k) refl)
  where
    there : (k : ℕ) (t : Bool) → (q == k) ≡ t → cond t (Some b) (map.get runs k) ≡ map.get runs k
    there k true e = sym is ∙ ap (map.get runs) (eq_same q k e)
    there k false e = refl

-- ---- bytes
none_written : (b : List ℕ) (i : ℕ) → written b i [] ≡ b
none_written b i = ap (λ (l : List ℕ). l ++ drop (i + 0) b) (append-nil (take i b)) ∙ ap (λ (n : ℕ). take i b ++ drop n b) {x = i + 0} {y = i} (omega arith) ∙ take-append-drop i b

two_written : (b : List ℕ) (i : ℕ) (w v : List ℕ) → i + (length w + length v) ≤ length b → written (written b i w) (i + length w) v ≡ written b i (w ++ v)
two_written b i w v fits =
    let front = take i b ++ w in
    let rest = drop (i + length w) b in
    let long : length front ≡ i + length w = omega (arith, fits, length-append (take i b) w, length-take i b) in
    let past : i + length w + length v ≡ i + length (w ++ v) = omega (arith, length-append w v) in
    ap (λ (l : List ℕ). l ++ v ++ drop (i + length w + length v) (front ++ rest)) (take_at front rest (i + length w) long)
    ∙ ap (λ (l : List ℕ). front ++ v ++ l) (drop-append-drop (i + length w) b front (i + length w + length v) (omega arith) long ∙ ap (λ (n : ℕ). drop n b) past)
    ∙ ap (λ (l : List ℕ). l ++ drop (i + length (w ++ v)) b) (append_assoc (take i b) w v)

-- ---- one part more
-- w was written over the range that begins there in the run at q
abbrev pub IsOver : PageRuns → ℕ → List ℕ → ℕ → List ℕ → PageRuns → Type 0
IsOver runs q b addr w new = new ≡ map.insert runs q (written b (addr - q) w)

pub none_over : (runs : PageRuns) (q : ℕ) (b : List ℕ) (addr : ℕ) → map.get runs q ≡ Some b → IsOver runs q b addr [] runs
none_over runs q b addr is = sym (ap (map.insert runs q) (none_written b (addr - q)) ∙ insert_same runs q b is)

-- the part after it is in no other run
pub part_over :
    (runs mid new : PageRuns) (q : ℕ) (b : List ℕ) (addr len : ℕ) (w v : List ℕ) → AreDisjoint runs → map.get runs q ≡ Some b → Lies q b addr len → length w + length v ≤ len
    → IsOver runs q b addr w mid → Writes mid (addr + length w) (length v) v new → IsOver runs q b addr (w ++ v) new
part_over runs mid new q b addr len w v apart is lies within over h =
    h.value ∙ ap (λ (m : PageRuns). map.insert m h.first (written h.bytes (addr + length w - h.first) v)) over
    ∙ ap (λ (k : ℕ). map.insert (map.insert runs q mine) k (written h.bytes (addr + length w - k) v)) (sym here)
    ∙ insert_twice runs q mine (written h.bytes (addr + length w - q) v)
    ∙ ap (λ (l : List ℕ). map.insert runs q (written l (addr + length w - q) v)) bytes
    ∙ ap (λ (n : ℕ). map.insert runs q (written mine n v)) {x = addr + length w - q} {y = addr - q + length w} (omega (arith, lies.from))
    ∙ ap (map.insert runs q) (two_written b (addr - q) w v (omega (arith, lies.from, lies.to, within)))
  where
    mine : List ℕ
    mine = written b (addr - q) w

    found : map.get (map.insert runs q mine) h.first ≡ Some h.bytes
    found = ap (λ (m : PageRuns). map.get m h.first) (sym over) ∙ h.is_run

    other : q ≢ h.first → ⊥
    other ne =
        let there : map.get runs h.first ≡ Some h.bytes = ap (λ (t : Bool). cond t (Some mine) (map.get runs h.first)) (sym (other_eq q h.first ne)) ∙ sym (got runs q h.first mine) ∙ found in
        ⊎_elim (λ (before : q + length b ≤ h.first). absurd (omega (arith, before, h.lies.from, h.lies.some, lies.to, within)))
        (λ (after : h.first + length h.bytes ≤ q). absurd (omega (arith, after, h.lies.to, h.lies.some, lies.from)))
        (apart q h.first b h.bytes is there ne)

    here : q ≡ h.first
    here = ⊎_elim (λ (e : q ≡ h.first). e) (λ (ne : q ≢ h.first). absurd (other ne)) (cases_eq q h.first)

    bytes : h.bytes ≡ mine
    bytes = sym (same_Some mine h.bytes (ap (λ (t : Bool). cond t (Some mine) (map.get runs h.first)) (sym (same_eq q h.first here)) ∙ sym (got runs q h.first mine) ∙ found))

-- ---- one run more
written_length : (b : List ℕ) (i : ℕ) (w : List ℕ) → i + length w ≤ length b → length (written b i w) ≡ length b
written_length b i w fits =
    omega (arith, fits, length-append (take i b ++ w) (drop (i + length w) b), length-append (take i b) w, length-take i b, length-drop (i + length w) b)

pub run_over :
    (runs mid new : PageRuns) (q : ℕ) (b : List ℕ) (addr len at byte n : ℕ) (w : List ℕ) → AreDisjoint runs → map.get runs q ≡ Some b → Lies q b addr len → length w + n ≤ len → at ≡ addr + length w
    → IsOver runs q b addr w mid → (IsHeld mid at n → Writes mid at n (replicate n byte) new) → (n ≡ 0 → new ≡ mid) → IsOver runs q b addr (w ++ replicate n byte) new
run_over runs mid new q b addr len at byte n w apart is lies within begins over writes nothing =
    ⊎_elim
    (λ (none : n ≡ 0). nothing none ∙ over ∙ ap (λ (l : List ℕ). map.insert runs q (written b (addr - q) l)) (sym (append-nil w) ∙ ap (λ (k : ℕ). w ++ replicate k byte) (sym none)))
    (λ (some : n ≢ 0). part_over runs mid new q b addr len w (replicate n byte) apart is lies (omega (arith, within, long)) over
    (subst (λ (k : ℕ). Writes mid k (length {A = ℕ} (replicate n byte)) (replicate n byte) new) begins
    (subst (λ (k : ℕ). Writes mid at k (replicate n byte) new) (sym long) (writes (held some)))))
    (cases_eq n 0)
  where
    long : length {A = ℕ} (replicate n byte) ≡ n
    long = length-replicate n byte

    mine : List ℕ
    mine = written b (addr - q) w

    held : n ≢ 0 → IsHeld mid at n
    held some = (
      q,
      mine,
      ap (λ (m : PageRuns). map.get m q) over ∙ got runs q q mine ∙ ap (λ (t : Bool). cond t (Some mine) (map.get runs q)) (same_eq q q refl),
      record {
        some = omega (arith, some);
        from = omega (arith, begins, lies.from);
        to = omega (arith, begins, lies.from, lies.to, within, written_length b (addr - q) w (omega (arith, lies.from, lies.to, within)));
      },
    )

-- ---- the bytes of one run more
pub expand_front : (pairs : List (ℕ × ℕ)) (i : ℕ) → i < length pairs → expand (take (i + 1) pairs) ≡ expand (take i pairs) ++ replicate (get_or pairs i (0, 0)).1 (get_or pairs i (0, 0)).0
expand_front [] i lt = absurd (omega arith)
expand_front (run ∷ pairs) zero lt = append-nil (replicate run.1 run.0)
expand_front (run ∷ pairs) (suc i) lt =
    ap (λ (k : ℕ). expand (take k (run ∷ pairs))) {x = suc i + 1} {y = suc (i + 1)} (omega arith)
    ∙ ap (λ (l : List ℕ). replicate run.1 run.0 ++ l) (expand_front pairs i (omega (arith, lt)))
    ∙ sym (append_assoc (replicate run.1 run.0) (expand (take i pairs)) (replicate (get_or pairs i (0, 0)).1 (get_or pairs i (0, 0)).0))

total_front : (pairs : List (ℕ × ℕ)) (i : ℕ) → total (take i pairs) ≤ total pairs
total_front [] zero = omega arith
total_front [] (suc i) = omega arith
total_front (run ∷ pairs) zero = omega arith
total_front (run ∷ pairs) (suc i) = omega (arith, total_front pairs i)

pub total_more : (pairs : List (ℕ × ℕ)) (i : ℕ) → i < length pairs → total (take (i + 1) pairs) ≡ total (take i pairs) + (get_or pairs i (0, 0)).1
total_more pairs i lt =
    let run : ℕ × ℕ = get_or pairs i (0, 0) in
    omega (arith, length_expand (take (i + 1) pairs), length_expand (take i pairs), ap (λ (l : List ℕ). length l) (expand_front pairs i lt), length-append (expand (take i pairs)) (replicate run.1 run.0), length-replicate {A = ℕ} run.1 run.0)

pub total_within : (pairs : List (ℕ × ℕ)) (i : ℕ) → i < length pairs → total (take i pairs) + (get_or pairs i (0, 0)).1 ≤ total pairs
total_within pairs i lt = omega (arith, total_more pairs i lt, total_front pairs (i + 1))
