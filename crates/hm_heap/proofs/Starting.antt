-- Where a block begins that is given at an alignment.
use Rattle.std.proofs.Common.{◌≡◌, ℕ, ◌+◌, ◌-◌, ◌*◌, ◌%◌, ◌<◌, Bool, if◌then◌else◌, List, [], ◌∷◌, ◌++◌, length, slice_index_or, Some, Result, Ok, Err, IfOk, refl, sym, ◌∙◌, ap, subst, arith}
use Rattle.std.proofs.lemmas.Bool.{lt-ltb, le-ltb}
use Rattle.std.proofs.lemmas.Nat.{div-add-mod'}
use mathlib.Core.Logic.{inl}
use Rattle.hm_base.specs.declared.memory.NoMemory.{NoMemory}
use Rattle.hm_model.specs.declared.answer.Answer.{Answer}
use Rattle.hm_model.specs.declared.answer.Answer.TheVariants as answer
use Rattle.hm_model.specs.declared.entry.Call.{Call}
use Rattle.hm_model.specs.declared.entry.Call.TheVariants.{Allot}
use Rattle.hm_model.specs.declared.entry.Entry.{Entry}
use Rattle.hm_model.specs.declared.entry.Reply.{Reply}
use Rattle.hm_model.specs.declared.entry.Reply.TheVariants.{Given}
use Rattle.hm_model.specs.declared.entry.Who.{Who}
use Rattle.hm_model.specs.Machine.{Legal_split}
use Rattle.hm_sizes.specs.declared.class.ClassId.{ClassId}
use Rattle.hm_sizes.specs.declared.class.Kind.TheVariants.{Small}
use Rattle.hm_sizes.specs.declared.config.Config.{Config}
use Rattle.hm_sizes.specs.Aligned.{IsAlignment, IsAlignedKindOf, AlignedGives}
use Rattle.hm_sizes.specs.Classes.{slot_size}
use Rattle.hm_sizes.specs.Configs.{IsValid}
use Rattle.hm_sizes.specs.Homes.{region_count}
use Rattle.hm_sizes.specs.Origins.{Origin, large_region_number}
use Rattle.hm_sizes.specs.Shapes.{IsShape}
use Rattle.hm_sizes.proofs.Alignments.{places_aligned, pages_aligned}
use Rattle.hm_class_rules.specs.Rules as class
use Rattle.hm_class_rules.specs.State as class_state
use Rattle.hm_class_rules.specs.Steps as class_steps
use Rattle.hm_large_rules.specs.Rules as large
use Rattle.hm_large_rules.specs.State as large_state
use Rattle.hm_large_rules.specs.Steps as large_steps
use Rattle.hm_turn.specs.Known.{Lock}
use Rattle.hm_heap.specs.Calls.{class_index, large_index, replied, StartsAligned}
use Rattle.hm_heap.specs.Lawful.{class_terms, large_terms, IsLawful, IsRegionOf}
use Rattle.hm_heap.specs.Origins.{origin_in}
use Rattle.hm_heap.specs.Parts.{who_of, HasPart}
use Rattle.hm_heap.specs.Passes.{PassView, AreLocks, AreOf, region_at}
use Rattle.hm_heap.specs.Plans.{Part, Follows, GoesOn}
use Rattle.hm_heap.proofs.Blocks.{shape_fits}
use Rattle.hm_heap.proofs.Origins.{origin_back}

-- ---- a legal history that ends with a given block
class_starts : (t : class.Terms) (es : List Entry) (e : Entry) (asked align a size : ℕ) → IsShape t.shape → t.shape.slot ≡ slot_size t.shape.class.0 → IsAlignment align → IsAlignedKindOf asked align (Small t.shape.class)
    → class.IsLegal t (es ++ e ∷ []) → e.call ≡ Allot asked 1 → e.reply ≡ Given a size → a % align ≡ 0
class_starts t es e asked align a size fit slot is kind legal call reply =
    let s = class.state t es in
    let last = (Legal_split (class_steps.step t.shape) (class.Allowed t) class_state.start es (e ∷ []) legal).1.0 in
    let allows = subst (λ (r : Reply). class.Allows t s e.faults_before e.faults_after e.choices (Allot asked 1) r) reply
    (subst (λ (c : Call). class.Allows t s e.faults_before e.faults_after e.choices c e.reply) call last.allows) in
    places_aligned t.shape asked align a fit slot is kind allows.0.place

large_starts : (t : large.Terms) (es : List Entry) (e : Entry) (asked align a size : ℕ) → IsAlignment align → large.IsLegal t (es ++ e ∷ []) → e.call ≡ Allot asked align → e.reply ≡ Given a size → a % align ≡ 0
large_starts t es e asked align a size is legal call reply =
    let s = large.state t es in
    let last = (Legal_split large_steps.step (large.Allowed t) large_state.start es (e ∷ []) legal).1.0 in
    let allows = subst (λ (r : Reply). large.Allows t s e (Allot asked align) r) reply (subst (λ (c : Call). large.Allows t s e c e.reply) call last.allows) in
    pages_aligned align a is allows.0.0.fits.aligned

-- ---- the region at an index
abbrev origin_at : Config → ℕ → ℕ → Bool → Origin
origin_at c seed index told = record { config = c; seed = seed; region = region_at c index; told = told }

-- the history of the region ends with this call and reply
record EndsWith (o : Origin) (call : Call) (reply : Reply) : Type 0 where
  earlier : List Entry
  entry : Entry
  lawful : IsLawful o (earlier ++ entry ∷ [])
  call_is : entry.call ≡ call
  reply_is : entry.reply ≡ reply

part_ends : (c : Config) (seed : ℕ) (locks : List Lock) (p q : PassView) (index : ℕ) (who : Who) (call : Call) (reply : Reply) → AreLocks c seed locks → AreOf locks p.turns → HasPart p q index who call (Ok reply)
    → (told : Bool) × EndsWith (origin_at c seed index told) call reply
part_ends c seed locks p q index who call reply are of part =
    let below : index < length locks = omega (arith, part.inside, of.same) in
    let l : Lock = record { id = part.turn.lock; origin = part.turn.knows.origin } in
    let before = (slice_index_or p.turns index part.turn).knows in
    let called = (part.called part.turn).1 in
    let made = called.made in
    let there = are.each index l below in
    let origin : origin_in before.origin ≡ origin_at c seed index there.told = ap origin_in ((of.each index l part.turn below).1 ∙ there.is) ∙ origin_back (origin_at c seed index there.told) in (
      there.told,
      record {
        earlier = made.earlier;
        entry = made.entry;
        lawful = subst (λ (o : Origin). IsLawful o (made.earlier ++ made.entry ∷ [])) origin (subst (IsLawful (origin_in before.origin)) made.seen called.lawful);
        call_is = made.is.call_is;
        reply_is = made.is.reply_is;
      },
    )

-- ---- the indices of the two kinds of region
class_back : (x k : ℕ) → k < 49 → (x * 49 + k) % 49 ≡ k
class_back x k below = omega (arith, div-add-mod' (x * 49 + k) 49)

starts_in_class : (c : Config) (seed index k : ℕ) (told : Bool) (asked align : ℕ) (reply : Reply) (a size : ℕ) → IsValid c → index < region_count c → index % 49 ≡ k → IsAlignment align
    → IsAlignedKindOf asked align (Small (record { 0 = k })) → EndsWith (origin_at c seed index told) (Allot asked 1) reply → reply ≡ Given a size → a % align ≡ 0
starts_in_class c seed index k told asked align reply a size valid below is alignment kind ends given =
    let at : region_at c index ≡ index = ap (λ (b : Bool). if b then index else large_region_number) (lt-ltb index (region_count c) below) in
    let o = origin_at c seed index told in
    let of : IsRegionOf o = record { valid = valid; region = inl (subst (λ (r : ℕ). r < region_count c) (sym at) below) } in
    let lt : o.region < large_region_number = omega (arith, at, below, valid.arenas_most) in
    let same : (class_terms o).shape.class ≡ record { 0 = k } = ap (λ (n : ℕ). record { 0 = n }) (ap (λ (r : ℕ). r % 49) at ∙ is) in
    class_starts (class_terms o) ends.earlier ends.entry asked align a size (shape_fits o of lt) refl alignment (subst (λ (z : ClassId). IsAlignedKindOf asked align (Small z)) (sym same) kind) (ends.lawful.class lt).legal
    ends.call_is (ends.reply_is ∙ given)

starts_in_large : (c : Config) (seed index : ℕ) (told : Bool) (asked align : ℕ) (reply : Reply) (a size : ℕ) → index ≡ region_count c → IsAlignment align → EndsWith (origin_at c seed index told) (Allot asked align) reply
    → reply ≡ Given a size → a % align ≡ 0
starts_in_large c seed index told asked align reply a size is alignment ends given =
    let at : region_at c index ≡ large_region_number = ap (λ (b : Bool). if b then index else large_region_number) (le-ltb index (region_count c) (omega (arith, is))) in
    let o = origin_at c seed index told in
    large_starts (large_terms o) ends.earlier ends.entry asked align a size alignment (ends.lawful.large at).legal ends.call_is (ends.reply_is ∙ given)

-- ---- the answer
abbrev reply_in : Answer → Reply → Reply
reply_in (answer.Reply reply) other = reply
reply_in ans other = other

module _ (c : Config) (seed : ℕ) (locks : List Lock) (p : PassView) (align : ℕ) (are : AreLocks c seed locks) (of : AreOf locks p.turns) where
  part_answers : (q between : PassView) (index : ℕ) (who : Who) (call : Call) (r : Result Answer NoMemory) (made : Result Reply NoMemory) → HasPart p between index who call made
      → GoesOn between q r (λ z reply. Follows z q who.step 2 (replied reply) r) made
      → ((told : Bool) (reply : Reply) (a size : ℕ) → EndsWith (origin_at c seed index told) call reply → reply ≡ Given a size → a % align ≡ 0)
      → IfOk r (StartsAligned align)
  part_answers q between index who call r (Ok reply) part rest starts =
      let ends = part_ends c seed locks p between index who call reply are of part in
      subst (λ (z : Result Answer NoMemory). IfOk z (StartsAligned align)) (sym rest.0)
      (λ a size given. starts ends.0 reply a size ends.1 (ap (λ (z : Answer). reply_in z reply) given))
  part_answers q between index who call r (Err none) part rest starts = subst (λ (z : Result Answer NoMemory). IfOk z (StartsAligned align)) (sym rest.1) tt

  pub small_starts : (q : PassView) (step asked index thread : ℕ) (class : ClassId) (r : Result Answer NoMemory) → index ≡ class_index c thread class.0 → index < region_count c → class.0 < 49
      → AlignedGives asked align (Some (Small class)) → Follows p q step 1 (Part index (Allot asked 1) replied) r → IfOk r (StartsAligned align)
  small_starts q step asked index thread class r is below lt gives follows =
      part_answers q follows.between index (who_of p step 1) (Allot asked 1) r follows.made follows.part follows.rest
      (λ told reply a size ends given. starts_in_class c seed index class.0 told asked align reply a size are.valid below (ap (λ (n : ℕ). n % 49) is ∙ class_back ((thread - 1) % c.arenas) class.0 lt) gives.0 gives.1 ends given)

  pub large_starts_at : (q : PassView) (step asked index : ℕ) (r : Result Answer NoMemory) → index ≡ large_index c → IsAlignment align → Follows p q step 1 (Part index (Allot asked align) replied) r → IfOk r (StartsAligned align)
  large_starts_at q step asked index r is alignment follows =
      part_answers q follows.between index (who_of p step 1) (Allot asked align) r follows.made follows.part follows.rest
      (λ told reply a size ends given. starts_in_large c seed index told asked align reply a size is alignment ends given)
