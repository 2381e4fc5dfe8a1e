-- How long what stands in the ring has been there.
use Rattle.std.proofs.Common.{◌≡◌, ℕ, zero, suc, ◌+◌, ◌<◌, ◌≤◌, ◌==◌, min, Bool, true, false, cond, ◌||◌, List, [], ◌∷◌, ◌++◌, length, take, get_or, Option, Some, None, IfSome, sym, ◌∙◌, ap, subst, refl, arith, true≢false, length-append}
use Rattle.std.specs.Bool.{⊤}
use Rattle.std.proofs.lemmas.Bool.Decides.{nat_tests}
use Rattle.hm_quarantine.specs.Quarantine.{Kept, IsArrayIndex, goes_on, ring_with, goes_out, let_go, kept_with}
use Rattle.hm_quarantine.specs.LookingBack.{Free, AreIndices, kept_after}
use Rattle.hm_base.specs.Members.{among, without_option}
use Rattle.hm_quarantine.specs.Delay.{slots_of, quarantined, AreNew, IsDelayed, Delays, HoldsFew}
use Rattle.hm_quarantine.proofs.Rings.{Takes, Room, Full, HasRoom, IsFull, takes}
use Rattle.hm_quarantine.proofs.Passes.{length_array, length_is, looks_back, on_with}
use Rattle.hm_quarantine.proofs.Counts.{one_of, count, count_in, times, count_array, count_empty, count_ring, count_without, among_one, among_none, none_among, once_more, self_is, count_at, count_all, count_most}

-- a slot stands not among the latest k frees
abbrev Quiet : ℕ → ℕ → List ℕ → Type 0
Quiet k a frees = among a (take k frees) ≡ false

-- each slot of the ring, the oldest first, has been quiet for as many frees as slots came after it, and m more
abbrev Aged : ℕ → List ℕ → List ℕ → Type 0
Aged m [] frees = ⊤
Aged m (y ∷ ring) frees = Quiet (length ring + m) y frees × Aged m ring frees

or_left : (b c : Bool) → (b || c) ≡ false → b ≡ false
or_left true c e = e
or_left false c e = refl

or_right : (b c : Bool) → (b || c) ≡ false → c ≡ false
or_right true c e = absurd (true≢false e)
or_right false c e = e

or_both : (b c : Bool) → b ≡ false → c ≡ false → (b || c) ≡ false
or_both b c p q = ap (λ x. x || c) p ∙ q

flip : (a b : ℕ) → (a == b) ≡ false → (b == a) ≡ false
flip a b e = grind (arith, nat_tests)

later : (k j a f : ℕ) (frees : List ℕ) → (f == a) ≡ false → Quiet k a frees → j ≡ suc k → Quiet j a (f ∷ frees)
later k j a f frees ne quiet is = subst (λ (n : ℕ). Quiet n a (f ∷ frees)) (sym is) (or_both _ _ ne quiet)

-- quiet for k + 1 frees, so for k
fewer : (k a : ℕ) (frees : List ℕ) → Quiet (suc k) a frees → Quiet k a frees
fewer zero a frees q = refl
fewer (suc k) a [] q = refl
fewer (suc k) a (f ∷ frees) q = or_both _ _ (or_left _ _ q) (fewer k a frees (or_right (f == a) _ q))

-- a free by which nothing comes to the ring
stay : (m f : ℕ) (ring frees : List ℕ) → Aged m ring frees → among f ring ≡ false → Aged m ring (f ∷ frees)
stay m f [] frees ages none = tt
stay m f (y ∷ ring) frees ages none =
    (fewer (length ring + m) y (f ∷ frees) (later (length ring + m) (suc (length ring + m)) y f frees (flip y f (or_left _ _ none)) ages.0 refl), stay m f ring frees ages.1 (or_right _ _ none))

-- a free by which x comes
ages_push : (m f x : ℕ) (ring frees : List ℕ) → Aged m ring frees → among f ring ≡ false → Quiet m x (f ∷ frees) → Aged m (ring ++ x ∷ []) (f ∷ frees)
ages_push m f x [] frees ages none quiet = (subst (λ (n : ℕ). Quiet n x (f ∷ frees)) (omega arith) quiet, tt)
ages_push m f x (y ∷ ring) frees ages none quiet = (
  later (length ring + m) (length (ring ++ x ∷ []) + m) y f frees (flip y f (or_left _ _ none)) ages.0 (omega (arith, length-append ring (x ∷ []))),
  ages_push m f x ring frees ages.1 (or_right _ _ none) quiet,
)

-- the ring after a free, and what it gave out
record RingAfter (size m : ℕ) (ring : List ℕ) (out : Option ℕ) (frees : List ℕ) : Type 0 where
  ages : Aged m ring frees
  gives : IfSome out (λ y. Quiet (size + m) y frees)
  few : length ring ≤ size

ring_after : (size m f x : ℕ) (ring frees : List ℕ) → length ring ≤ size → Aged m ring frees → among f ring ≡ false → Quiet m x (f ∷ frees)
    → RingAfter size m (ring_with size ring (Some x)) (goes_out size ring (Some x)) (f ∷ frees)
ring_after size m f x ring frees le ages none quiet = goes (takes size x ring le)
  where
    pushed : Aged m (ring ++ x ∷ []) (f ∷ frees)
    pushed = ages_push m f x ring frees ages none quiet

    room : length ring < size → HasRoom size x ring → RingAfter size m (ring_with size ring (Some x)) (goes_out size ring (Some x)) (f ∷ frees)
    room lt has =
        subst (λ (r : List ℕ). RingAfter size m r (goes_out size ring (Some x)) (f ∷ frees)) (sym has.ring_is)
        (subst (λ (o : Option ℕ). RingAfter size m (ring ++ x ∷ []) o (f ∷ frees)) (sym has.out_is)
        (record { ages = pushed; gives = tt; few = omega (arith, lt, length-append ring (x ∷ [])) }))

    full : (y : ℕ) (rest : List ℕ) → Aged m (y ∷ rest) (f ∷ frees) → length rest ≡ size → IsFull size x ring y rest
        → RingAfter size m (ring_with size ring (Some x)) (goes_out size ring (Some x)) (f ∷ frees)
    full y rest old long is =
        subst (λ (r : List ℕ). RingAfter size m r (goes_out size ring (Some x)) (f ∷ frees)) (sym is.ring_is)
        (subst (λ (o : Option ℕ). RingAfter size m rest o (f ∷ frees)) (sym is.out_is)
        (record { ages = old.1; gives = subst (λ (n : ℕ). Quiet (n + m) y (f ∷ frees)) long old.0; few = omega (arith, long) }))

    goes : Takes size x ring → RingAfter size m (ring_with size ring (Some x)) (goes_out size ring (Some x)) (f ∷ frees)
    goes (Room lt has) = room lt has
    goes (Full y rest grown long is) = full y rest (subst (λ (r : List ℕ). Aged m r (f ∷ frees)) grown pushed) long is

enter_after : (size m f : ℕ) (ring frees : List ℕ) (o : Option ℕ) → length ring ≤ size → Aged m ring frees → among f ring ≡ false
    → ((x : ℕ) → o ≡ Some x → Quiet m x (f ∷ frees)) → RingAfter size m (ring_with size ring o) (goes_out size ring o) (f ∷ frees)
enter_after size m f ring frees None le ages none quiet = record { ages = stay m f ring frees ages none; gives = tt; few = le }
enter_after size m f ring frees (Some x) le ages none quiet = ring_after size m f x ring frees le ages none (quiet x refl)

-- one more where there is an array
abbrev more : ℕ → ℕ
more zero = 0
more (suc n) = 1

is_more : (n : ℕ) → more n ≡ min n 1
is_more zero = omega arith
is_more (suc n) = omega arith

-- what is quarantined stands in the array and the ring, once, and the ring is old enough
record Fine (n : ℕ) (waiting frees : List ℕ) (k : Kept) : Type 0 where
  counts : (t : ℕ → Bool) → count t waiting ≡ count_in t k.array + count t k.ring
  once : (a : ℕ) → times a waiting ≤ 1
  ages : Aged (more n) k.ring frees
  few : length k.ring ≤ k.ring_length

-- a free of a slot that is not quarantined
record Freed (n : ℕ) (waiting frees : List ℕ) (k : Kept) (out : Option ℕ) : Type 0 where
  counts : (t : ℕ → Bool) → count_in t k.array + count t k.ring + one_of t out ≡ count t waiting
  once : (a : ℕ) → times a waiting ≤ 1
  ring : RingAfter k.ring_length (more n) k.ring out frees

none_of : (n f : ℕ) (waiting frees : List ℕ) (k : Kept) → Fine n waiting frees k → among f waiting ≡ false → count_in (λ x. x == f) k.array + count (λ x. x == f) k.ring ≡ 0
none_of n f waiting frees k fine new = sym (fine.counts (λ x. x == f)) ∙ none_among f waiting new

-- what goes on from the array is not the freed slot
quiet_on : (n f p : ℕ) (waiting frees : List ℕ) (k : Kept) → length k.array ≡ n → IsArrayIndex n p → Fine n waiting frees k → among f waiting ≡ false
    → (x : ℕ) → goes_on k.array f p ≡ Some x → Quiet (more n) x (f ∷ frees)
quiet_on zero f p waiting frees k wide index fine new x e = refl
quiet_on (suc n) f p waiting frees k wide index fine new x e = or_both (f == x) false (differ (x == f) least refl) refl
  where
    within : p < length k.array
    within = subst (λ (j : ℕ). p < j) (sym wide) index

    stood : get_or k.array p None ≡ Some x
    stood = sym (on_with k.array f p within) ∙ e

    least : cond (x == f) 1 0 ≤ 0
    least = omega (arith, none_of (suc n) f waiting frees k fine new, count_at (λ y. y == f) k.array p x stood)

    differ : (c : Bool) → cond c 1 0 ≤ 0 → c ≡ (x == f) → (f == x) ≡ false
    differ true le is = absurd (omega (arith, le))
    differ false le is = flip x f (sym is)

freed : (n f p : ℕ) (waiting frees : List ℕ) (k : Kept) → length k.array ≡ n → IsArrayIndex n p → among f waiting ≡ false → Fine n waiting frees k
    → Freed n (f ∷ waiting) (f ∷ frees) (kept_with k f p) (let_go k f p)
freed n f p waiting frees k wide index new fine = record {
  counts = λ t. omega (arith, fine.counts t, count_ring t k.ring_length k.ring (goes_on k.array f p) fine.few, count_array t k.array f p (subst (λ (j : ℕ). IsArrayIndex j p) (sym wide) index));
  once = λ a. once_more a f waiting new (fine.once a);
  ring = enter_after k.ring_length (more n) f k.ring frees (goes_on k.array f p) fine.few fine.ages
      (among_none f k.ring (omega (arith, none_of n f waiting frees k fine new))) (quiet_on n f p waiting frees k wide index fine new);
}

-- what a free releases was quarantined
was_counted : (n : ℕ) (waiting frees : List ℕ) (k : Kept) (out : Option ℕ) → Freed n waiting frees k out → (b : ℕ) → out ≡ Some b → 1 ≤ times b waiting
was_counted n waiting frees k out free b e =
    omega (arith, free.counts (λ x. x == b), ap (λ (o : Option ℕ). one_of (λ x. x == b) o) e, self_is b)

least_most : (a : ℕ) → 1 ≤ a → a ≤ 1 → a ≡ 1
least_most a low high = omega arith

fine_after : (n : ℕ) (waiting frees : List ℕ) (k : Kept) (out : Option ℕ) → Freed n waiting frees k out → Fine n (without_option out waiting) frees k
fine_after n waiting frees k out free = record {
  counts = λ t. omega (arith, free.counts t, left t);
  once = λ a. omega (arith, free.once a, left (λ x. x == a));
  ages = free.ring.ages;
  few = free.ring.few;
}
  where
    left : (t : ℕ → Bool) → count t (without_option out waiting) + one_of t out ≡ count t waiting
    left t = count_without t out waiting (λ b e. least_most (times b waiting) (was_counted n waiting frees k out free b e) (free.once b))

abbrev freed_by : ℕ → ℕ → List Free → Free → Type 0
freed_by n size past free =
    Freed n (free.slot ∷ quarantined n size past) (slots_of (free ∷ past)) (kept_after n size (free ∷ past)) (let_go (kept_after n size past) free.slot free.index)

all_fine : (n size : ℕ) (past : List Free) → AreIndices n past → AreNew n size past → Fine n (quarantined n size past) (slots_of past) (kept_after n size past)
all_fine n size [] indices new = record { counts = λ t. omega (arith, count_empty t n); once = λ a. omega arith; ages = tt; few = omega arith }
all_fine n size (free ∷ past) indices new =
    subst (λ (o : Option ℕ). Fine n (without_option o (free.slot ∷ quarantined n size past)) (slots_of (free ∷ past)) (kept_after n size (free ∷ past)))
    (looks_back n size past free indices)
    (fine_after n (free.slot ∷ quarantined n size past) (slots_of (free ∷ past)) (kept_after n size (free ∷ past)) (let_go (kept_after n size past) free.slot free.index)
    (freed n free.slot free.index (quarantined n size past) (slots_of past) (kept_after n size past) (length_array n size past) indices.0 new.0 (all_fine n size past indices.1 new.1)))

all_freed : (n size : ℕ) (past : List Free) (free : Free) → AreIndices n (free ∷ past) → AreNew n size (free ∷ past) → freed_by n size past free
all_freed n size past free indices new =
    freed n free.slot free.index (quarantined n size past) (slots_of past) (kept_after n size past) (length_array n size past) indices.0 new.0 (all_fine n size past indices.1 new.1)

delayed : (n size : ℕ) (past : List Free) (free : Free) (k : Kept) (out : Option ℕ) → k.ring_length ≡ size
    → Freed n (free.slot ∷ quarantined n size past) (slots_of (free ∷ past)) k out → IfSome out (IsDelayed n size past free)
delayed n size past free k None size_is done = tt
delayed n size past free k (Some b) size_is done = record {
  was_quarantined = among_one b (free.slot ∷ quarantined n size past) (was_counted n (free.slot ∷ quarantined n size past) (slots_of (free ∷ past)) k (Some b) done b refl);
  late =
      subst (λ (j : ℕ). Quiet (size + j) b (slots_of (free ∷ past))) (is_more n)
      (subst (λ (j : ℕ). Quiet (j + more n) b (slots_of (free ∷ past))) size_is done.ring.gives);
}

pub delays : Delays
delays n size past free indices new =
    subst (λ (o : Option ℕ). IfSome o (IsDelayed n size past free)) (looks_back n size past free indices)
    (delayed n size past free (kept_after n size (free ∷ past)) (let_go (kept_after n size past) free.slot free.index) (length_is n size (free ∷ past)) (all_freed n size past free indices new))

pub holds_few : HoldsFew
holds_few n size past indices new = few (all_fine n size past indices new)
  where
    few : Fine n (quarantined n size past) (slots_of past) (kept_after n size past) → length (quarantined n size past) ≤ n + size
    few fine =
        omega (arith, count_all (quarantined n size past), fine.counts (λ x. true), fine.few, length_is n size past, count_all (kept_after n size past).ring, count_most (kept_after n size past).array, length_array n size past)
