-- How far a reply reaches.
use Rattle.std.proofs.Common.{◌≡◌, ℕ, ◌+◌, ◌*◌, ◌^◌, ◌<◌, ◌≤◌, ◌⊎◌, Bool, if◌then◌else◌, List, [], ◌∷◌, ◌++◌, length, slice_index_or, Option, Some, None, IfSome, Result, Ok, Err, IfOk, sym, ◌∙◌, ap, subst, refl, arith}
use Rattle.std.proofs.lemmas.Bool.{cases_lt, lt-ltb, le-ltb}
use mathlib.Core.Logic.{inl, inr}
use Rattle.hm_base.specs.declared.memory.NoMemory.{NoMemory}
use Rattle.hm_model.specs.declared.entry.Call.{Call}
use Rattle.hm_model.specs.declared.entry.Call.TheVariants.{Allot, GiveBack, Measure, Fetch, Fill}
use Rattle.hm_model.specs.declared.entry.Entry.{Entry}
use Rattle.hm_model.specs.declared.entry.Reply.{Reply}
use Rattle.hm_model.specs.declared.entry.Reply.TheVariants.{Given}
use Rattle.hm_model.specs.declared.entry.Who.{Who}
use Rattle.hm_model.specs.Machine.{Legal_split}
use Rattle.hm_model.specs.Replies.{IsClassReply, IsLargeReply}
use Rattle.hm_sizes.specs.declared.config.Config.{Config}
use Rattle.hm_sizes.specs.Homes.{region_count}
use Rattle.hm_sizes.specs.Origins.{Origin, large_region_number}
use Rattle.hm_sizes.specs.Shapes.{usable, slab_of, slot_of}
use Rattle.hm_sizes.proofs.PlaceTest.{place_is}
use Rattle.hm_class_rules.specs.Rules as class
use Rattle.hm_class_rules.specs.State as class_state
use Rattle.hm_class_rules.specs.Steps as class_steps
use Rattle.hm_large_rules.specs.Rules as large
use Rattle.hm_large_rules.specs.State as large_state
use Rattle.hm_large_rules.specs.Steps as large_steps
use Rattle.hm_turn.specs.Knowledge.{Knowledge}
use Rattle.hm_turn.specs.Known.{Lock, Known}
use Rattle.hm_heap.specs.Called.{Called, Tried}
use Rattle.hm_heap.specs.Lawful.{IsLawful, class_terms, large_terms}
use Rattle.hm_heap.specs.Origins.{origin_in}
use Rattle.hm_heap.specs.Passes.{AreLocks, AreOf, region_at}
use Rattle.hm_heap.specs.Requests.{IsReply, Reaches}

-- ---- no block is given below 2 ^ 40
from_first : (a first slab slot : ℕ) → a ≡ first + slab + slot → 2 ^ 40 ≤ first → 2 ^ 40 ≤ a
from_first a first slab slot is least = omega (arith, is, least)

starts_late : (o : Origin) → 2 ^ 40 ≤ (class_terms o).shape.first
starts_late o = omega arith

class_least : (t : class.Terms) (es : List Entry) (e : Entry) (asked align a size : ℕ) → 2 ^ 40 ≤ t.shape.first → class.IsLegal t (es ++ e ∷ []) → e.call ≡ Allot asked align → e.reply ≡ Given a size → 2 ^ 40 ≤ a
class_least t es e asked align a size first legal call reply =
    let s = class.state t es in
    let last = (Legal_split (class_steps.step t.shape) (class.Allowed t) class_state.start es (e ∷ []) legal).1.0 in
    let allows = subst (λ (r : Reply). class.Allows t s e.faults_before e.faults_after e.choices (Allot asked align) r) reply
    (subst (λ (c : Call). class.Allows t s e.faults_before e.faults_after e.choices c e.reply) call last.allows) in
    let at = place_is t.shape a (slab_of t.shape a) (slot_of t.shape a) allows.0.place in
    from_first a t.shape.first (slab_of t.shape a * t.shape.slab) (slot_of t.shape a * t.shape.slot) at.is first

large_least : (t : large.Terms) (es : List Entry) (e : Entry) (asked align a size : ℕ) → large.IsLegal t (es ++ e ∷ []) → e.call ≡ Allot asked align → e.reply ≡ Given a size → 2 ^ 40 ≤ a
large_least t es e asked align a size legal call reply =
    let s = large.state t es in
    let last = (Legal_split large_steps.step (large.Allowed t) large_state.start es (e ∷ []) legal).1.0 in
    let allows = subst (λ (r : Reply). large.Allows t s e (Allot asked align) r) reply (subst (λ (c : Call). large.Allows t s e c e.reply) call last.allows) in
    omega (arith, allows.0.0.fits.from)

-- ---- only an allotment gives a block
pub record IsAllotment (call : Call) (a : ℕ) : Type 0 where
  pub asked : ℕ
  pub align : ℕ
  pub call_is : call ≡ Allot asked align
  pub low : a < 2 ^ 47

class_given : (n : ℕ) (call : Call) (a size : ℕ) → IsClassReply n call (Given a size) → IsAllotment call a
class_given n (Allot asked align) a size is = record { asked = asked; align = align; call_is = refl; low = is.0 }
class_given n (GiveBack addr stated) a size is = absurd is
class_given n (Measure addr) a size is = absurd is
class_given n (Fetch addr len) a size is = absurd is
class_given n (Fill addr runs) a size is = absurd is

large_given : (call : Call) (a size : ℕ) → IsLargeReply call (Given a size) → IsAllotment call a
large_given (Allot asked align) a size is = record { asked = asked; align = align; call_is = refl; low = is }
large_given (GiveBack addr stated) a size is = absurd is
large_given (Measure addr) a size is = absurd is
large_given (Fetch addr len) a size is = absurd is
large_given (Fill addr runs) a size is = absurd is

-- ---- the kinds of region
module _ (o : Origin) (es : List Entry) (e : Entry) (call : Call) (reply : Reply) (lawful : IsLawful o (es ++ e ∷ [])) (call_is : e.call ≡ call) (reply_is : e.reply ≡ reply) (kind : IsReply o call reply) where
  class_reaches : o.region < large_region_number → Reaches call reply
  class_reaches lt =
      let is : IsClassReply (usable (class_terms o).shape) call reply = kind.class lt in
      let n = usable (class_terms o).shape in
      record {
        given = λ a size given.
            let it = class_given n call a size (subst (λ (r : Reply). IsClassReply n call r) given is) in
            (class_least (class_terms o) es e it.asked it.align a size (starts_late o) (lawful.class lt).legal (call_is ∙ it.call_is) (reply_is ∙ given), it.low);
        bytes = λ a len runs fetch bytes. subst (λ (r : Reply). IsClassReply n (Fetch a len) r) bytes (subst (λ (c : Call). IsClassReply n c reply) fetch is);
      }

  large_reaches : o.region ≡ large_region_number → Reaches call reply
  large_reaches large =
      let is : IsLargeReply call reply = kind.large large in
      record {
        given = λ a size given.
            let it = large_given call a size (subst (λ (r : Reply). IsLargeReply call r) given is) in
            (large_least (large_terms o) es e it.asked it.align a size (lawful.large large).legal (call_is ∙ it.call_is) (reply_is ∙ given), it.low);
        bytes = λ a len runs fetch bytes. subst (λ (r : Reply). IsLargeReply (Fetch a len) r) bytes (subst (λ (c : Call). IsLargeReply c reply) fetch is);
      }

-- of the region at an index
region_below : (c : Config) (index : ℕ) → (region_at c index < region_count c) ⊎ (region_at c index ≡ large_region_number)
region_below c index = elim (cases_lt index (region_count c)) [
  | inl lt ↦ inl (subst (λ (r : ℕ). r < region_count c) (sym (ap (λ (b : Bool). if b then index else large_region_number) (lt-ltb index (region_count c) lt))) lt)
  | inr le ↦ inr (ap (λ (b : Bool). if b then index else large_region_number) (le-ltb index (region_count c) le))
]

reply_reaches : (o : Origin) (es : List Entry) (e : Entry) (c : Config) (index : ℕ) (call : Call) (reply : Reply) → c.arenas ≤ 4 → o.region ≡ region_at c index
    → IsLawful o (es ++ e ∷ []) → e.call ≡ call → e.reply ≡ reply → IsReply o call reply → Reaches call reply
reply_reaches o es e c index call reply most is lawful call_is reply_is kind = elim (region_below c index) [
  | inl lt ↦ class_reaches o es e call reply lawful call_is reply_is kind (omega (arith, lt, is, most))
  | inr large ↦ large_reaches o es e call reply lawful call_is reply_is kind (is ∙ large)
]

pub called_reaches : (who : Who) (c : Config) (index : ℕ) (call : Call) (r : Result Reply NoMemory) (before after : Knowledge) → c.arenas ≤ 4 → (origin_in before.origin).region ≡ region_at c index
    → Called who call r before after → IfOk r (Reaches call)
called_reaches who c index call (Ok reply) before after most is called =
    let m = called.made in
    reply_reaches (origin_in before.origin) m.earlier m.entry c index call reply most is (subst (IsLawful (origin_in before.origin)) m.seen called.lawful) m.is.call_is m.is.reply_is m.kind
called_reaches who c index call (Err none) before after most is called = tt

-- the origin of a turn is that of the region at its index
pub region_there : (c : Config) (seed : ℕ) (locks : List Lock) (turns : List Known) (index : ℕ) (t : Known) → AreLocks c seed locks → index < length locks → AreOf locks turns → t ≡ slice_index_or turns index t
    → (origin_in t.knows.origin).region ≡ region_at c index
region_there c seed locks turns index t are below of at =
    let l : Lock = record { id = t.lock; origin = t.knows.origin } in
    ap (λ (numbers : List ℕ). (origin_in numbers).region) (ap (λ (z : Known). z.knows.origin) at ∙ (of.each index l t below).1 ∙ (are.each index l below).is)

pub tried_reaches : (who : Who) (c : Config) (index : ℕ) (call : Call) (o : Option (Result Reply NoMemory)) (before after : Knowledge) → c.arenas ≤ 4 → (origin_in before.origin).region ≡ region_at c index
    → Tried who call o before after → IfSome o (λ made. IfOk made (Reaches call))
tried_reaches who c index call (Some r) before after most is tried = called_reaches who c index call r before after most is tried
tried_reaches who c index call None before after most is tried = tt
