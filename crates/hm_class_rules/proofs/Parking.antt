-- The parking array holds just the parked slabs of a legal and drawn history.
use Rattle.std.proofs.Common.{◌≡◌, ℕ, zero, suc, ◌+◌, ◌<◌, ◌≤◌, ◌==◌, Bool, true, cond, List, [], ◌∷◌, length, replicate, get_or, set, Option, Some, None, sym, ◌∙◌, ap, subst, refl, arith, length-set}
use Rattle.std.proofs.lemmas.List.{length-replicate}
use Rattle.hm_base.specs.Members.{without_option}
use Rattle.hm_quarantine.specs.Quarantine.{IsArrayIndex}
use Rattle.hm_quarantine.proofs.Counts as counted
use Rattle.hm_quarantine.proofs.Counts.{one_of, count, count_in, count_array, count_empty, count_without, self_is, count_at, count_all, count_most}
use Rattle.hm_quarantine.proofs.Passes.{on_with}
use Rattle.hm_model.specs.Maps.{times}
use Rattle.hm_model.specs.declared.entry.Call.{Call}
use Rattle.hm_model.specs.declared.entry.Call.TheVariants.{Allot, GiveBack, Fill}
use Rattle.hm_model.specs.declared.entry.Reply.{Reply}
use Rattle.hm_model.specs.declared.entry.Reply.TheVariants.{Given, Overwritten, Freed, Filled}
use Rattle.hm_model.specs.declared.entry.Choices.{Choices}
use Rattle.hm_model.proofs.Lists.{among_times}
use Rattle.hm_sizes.specs.declared.shape.Shape.{Shape}
use Rattle.hm_class_rules.specs.State.{State}
use Rattle.hm_class_rules.specs.Steps.{taken_new, opened, takes_back, releases, unparks, retires, purges, changed}
use Rattle.hm_class_rules.specs.Rules.{Terms, Unparks}
use Rattle.hm_class_rules.specs.Draws.{Event, Returned, event_of}
use Rattle.hm_class_rules.specs.Drawn.{unparked_by}
use Rattle.hm_class_rules.specs.Stepped.{parking_with}

-- the slabs of this list, each as often, stand in an array of this length
pub record AreParked (most : ℕ) (parked : List ℕ) (parking : List (Option ℕ)) : Type 0 where
  pub counts : (f : ℕ → Bool) → count f parked ≡ count_in f parking
  pub length_is : length parking ≡ most

pub none_parked : (most : ℕ) → AreParked most [] (replicate most None)
none_parked most = record { counts = λ f. sym (count_empty f most); length_is = length-replicate most None }

pub times_same : (a : ℕ) (xs : List ℕ) → counted.times a xs ≡ times a xs
times_same a [] = refl
times_same a (x ∷ xs) = ap (λ (n : ℕ). cond (x == a) 1 0 + n) (times_same a xs)

-- an array with an empty index is not full
not_full : (array : List (Option ℕ)) (index : ℕ) → index < length array → get_or array index None ≡ None → count_in (λ x. true) array < length array
not_full [] index lt e = absurd (omega arith)
not_full (o ∷ array) zero lt e = omega (arith, count_most array, ap (λ (q : Option ℕ). one_of (λ x. true) q) e)
not_full (None ∷ array) (suc index) lt e = omega (arith, not_full array index (omega arith) e)
not_full (Some x ∷ array) (suc index) lt e = omega (arith, not_full array index (omega arith) e)

-- what stands at a index was parked
stands_once : (most index u : ℕ) (parked : List ℕ) (parking : List (Option ℕ)) → AreParked most parked parking → get_or parking index None ≡ Some u → 1 ≤ counted.times u parked
stands_once most index u parked parking are e = omega (arith, are.counts (λ x. x == u), count_at (λ x. x == u) parking index u e, self_is u)

pub only_one : (a : ℕ) → 1 ≤ a → a ≤ 1 → a ≡ 1
only_one a low high = omega arith

left_count : (most index : ℕ) (parked : List ℕ) (parking : List (Option ℕ)) → AreParked most parked parking → ((n : ℕ) → times n parked ≤ 1) → (f : ℕ → Bool) (o : Option ℕ) → get_or parking index None ≡ o
    → count f (without_option o parked) + one_of f o ≡ count f parked
left_count most index parked parking are once f o e =
    count_without f o parked (λ b is. only_one (counted.times b parked) (stands_once most index b parked parking are (e ∙ is)) (omega (arith, times_same b parked, once b)))

-- what stands at a index may be unparked
pub unpark_allowed : (most index : ℕ) (parked : List ℕ) (parking : List (Option ℕ)) → AreParked most parked parking → ((n : ℕ) → times n parked ≤ 1) → index < most → Unparks most parked (get_or parking index None)
unpark_allowed most index parked parking are once lt = goes (get_or parking index None) refl
  where
    goes : (o : Option ℕ) → get_or parking index None ≡ o → Unparks most parked o
    goes None e = omega (arith, not_full parking index (omega (arith, are.length_is)) e, are.length_is, are.counts (λ x. true), count_all parked)
    goes (Some u) e = (
      among_times u parked (omega (arith, times_same u parked, stands_once most index u parked parking are e)),
      omega (arith, left_count most index parked parking are once (λ x. true) (Some u) e, count_all (without_option (Some u) parked), are.counts (λ x. true), count_most parking, are.length_is),
    )

-- a slab goes to a index, and what stood there leaves
parks_at : (most index m : ℕ) (parked : List ℕ) (parking : List (Option ℕ)) → AreParked most parked parking → ((n : ℕ) → times n parked ≤ 1) → index < most
    → AreParked most (m ∷ without_option (get_or parking index None) parked) (set parking index (Some m))
parks_at most index m parked parking are once lt =
    let within : index < length parking = omega (arith, are.length_is) in
    record {
      counts = λ f. omega (
        arith,
        left_count most index parked parking are once f (get_or parking index None) refl,
        are.counts f,
        count_array f parking m index (is_place (length parking) within),
        ap (λ (o : Option ℕ). one_of f o) (on_with parking m index within),
      );
      length_is = length-set parking index (Some m) ∙ are.length_is;
    }
  where
    is_place : (n : ℕ) → index < n → IsArrayIndex n index
    is_place zero h = absurd (omega arith)
    is_place (suc n) h = h

-- ---- every entry
new_parked : (p : Shape) (l : List ℕ) (s : State) → (taken_new p l s).parked ≡ s.parked
new_parked p [] s = refl
new_parked p (m ∷ ms) s = refl

opened_parked : (p : Shape) (o canary : Option ℕ) (s : State) → (opened p o canary s).parked ≡ s.parked
opened_parked p None canary s = refl
opened_parked p (Some n) canary s = new_parked p s.shut s

released_parked : (o : Option ℕ) (s : State) → (releases o s).parked ≡ s.parked
released_parked None s = refl
released_parked (Some b) s = refl

-- the parked slabs after a retirement and an unparking
abbrev parked_with : Option ℕ → Option ℕ → List ℕ → List ℕ
parked_with None unparked parked = without_option unparked parked
parked_with (Some m) unparked parked = m ∷ without_option unparked parked

out_parked : (p : Shape) (s : State) (r q u : Option ℕ) → (purges p q (retires r (unparks u s))).parked ≡ parked_with r u s.parked
out_parked p s None None None = refl
out_parked p s None None (Some u) = refl
out_parked p s None (Some q) None = refl
out_parked p s None (Some q) (Some u) = refl
out_parked p s (Some r) None None = refl
out_parked p s (Some r) None (Some u) = refl
out_parked p s (Some r) (Some q) None = refl
out_parked p s (Some r) (Some q) (Some u) = refl

-- a retirement parks, and without one the parked slabs stay
retired_parks : (most index : ℕ) (retired unparked : Option ℕ) (parked : List ℕ) (parking : List (Option ℕ)) → AreParked most parked parking → ((n : ℕ) → times n parked ≤ 1) → index < most
    → unparked ≡ unparked_by retired (get_or parking index None) → AreParked most (parked_with retired unparked parked) (parking_with index retired parking)
retired_parks most index None unparked parked parking are once lt e = subst (λ (o : Option ℕ). AreParked most (without_option o parked) parking) (sym e) are
retired_parks most index (Some m) unparked parked parking are once lt e =
    subst (λ (o : Option ℕ). AreParked most (m ∷ without_option o parked) (set parking index (Some m))) (sym e) (parks_at most index m parked parking are once lt)

parked_changed : (most : ℕ) (parked parked' : List ℕ) (parking : List (Option ℕ)) → parked' ≡ parked → AreParked most parked parking → AreParked most parked' parking
parked_changed most parked parked' parking e are = subst (λ (l : List ℕ). AreParked most l parking) (sym e) are

-- the parking array after an event
abbrev pub parking_by : ℕ → Choices → Event → List (Option ℕ) → List (Option ℕ)
parking_by index c (Returned a) parking = parking_with index c.retired parking
parking_by index c event parking = parking

-- what an event unparks is what stands at its index
abbrev pub UnparksDrawn : ℕ → Choices → Event → List (Option ℕ) → Type 0
UnparksDrawn index c (Returned a) parking = c.unparked ≡ unparked_by c.retired (get_or parking index None)
UnparksDrawn index c event parking = Unit {0}

pub parked_next : (t : Terms) (s : State) (most index : ℕ) (parking : List (Option ℕ)) (c : Choices) (call : Call) (reply : Reply) → ((n : ℕ) → times n s.parked ≤ 1) → index < most
    → UnparksDrawn index c (event_of call reply) parking → AreParked most s.parked parking → AreParked most (changed t.shape c call reply s).parked (parking_by index c (event_of call reply) parking)
parked_next t s most index parking c (Allot asked align) (Given a size) once lt drawn are = parked_changed most s.parked _ parking (opened_parked t.shape c.opened c.canary s) are
parked_next t s most index parking c (Allot asked align) (Overwritten a at found) once lt drawn are = parked_changed most s.parked _ parking (opened_parked t.shape c.opened c.canary s) are
parked_next t s most index parking c (GiveBack a stated) Freed once lt drawn are =
    let s₂ : State = releases c.released (takes_back t.shape a s) in
    parked_changed most (parked_with c.retired c.unparked s.parked) _ (parking_with index c.retired parking)
    (out_parked t.shape s₂ c.retired c.purged c.unparked ∙ ap (λ (l : List ℕ). parked_with c.retired c.unparked l) (released_parked c.released (takes_back t.shape a s)))
    (retired_parks most index c.retired c.unparked s.parked parking are once lt drawn)
parked_next t s most index parking c (Fill a runs) Filled once lt drawn are = are
parked_next t s most index parking c call reply once lt drawn are = are
