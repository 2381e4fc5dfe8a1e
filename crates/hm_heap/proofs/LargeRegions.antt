-- The large region by its origin.
use Rattle.std.proofs.Common.{◌≡◌, ℕ, Bool, Result, Ok, Err, IfOk, subst, refl, arith}
use mathlib.Core.Logic.{inr}
use Rattle.std.specs.Box.{with_value}
use Rattle.std.specs.Global.{Box}
use Rattle.hm_base.specs.declared.memory.NoMemory.{NoMemory}
use Rattle.hm_outside.specs.declared.pages.Pages as pages
use Rattle.hm_model.specs.declared.entry.Call.{Call}
use Rattle.hm_model.specs.declared.entry.Call.TheVariants.{Allot, GiveBack, Measure, Fetch, Fill}
use Rattle.hm_model.specs.declared.entry.Reply.{Reply}
use Rattle.hm_model.specs.declared.entry.Who.{Who}
use Rattle.hm_model.specs.Served.{ServesCall}
use Rattle.hm_model.specs.Replies.{IsLargeReply}
use Rattle.hm_sizes.specs.declared.config.Config.{Config}
use Rattle.hm_sizes.specs.Origins.{large_region_number}
use Rattle.hm_large.specs.Calls.{large_regions, Accepts}
use Rattle.hm_large.specs.Region.{Region, IsRegion, origin}
use Rattle.hm_heap.specs.Accepted.{IsAccepted}
use Rattle.hm_heap.specs.Lawful.{IsSound}
use Rattle.hm_heap.specs.Origins.{numbers_of}
use Rattle.hm_heap.specs.Regions.{regions}
use Rattle.hm_heap.specs.Requests.{IsReply}
use Rattle.hm_heap.specs.declared.region.Region.{Region as Either}
use Rattle.hm_heap.specs.declared.region.Region.TheVariants.{Large}

module _ {P : Type 0} (meaning : pages.Ghosts P) (r : Region P) where
  pub large_sound : IsRegion meaning r → IsSound meaning (origin meaning.told r) r.entries r.pages
  large_sound h = record {
    is_region = record { valid = h.valid; region = inr refl };
    lawful = record { class = λ lt. absurd (omega (arith, lt)); large = λ e. record { legal = h.legal; drawn = h.drawn } };
    typed = h.typed;
    count = h.count;
    holds = λ tells. record { class = λ lt. absurd (omega (arith, lt)); large = λ e. h.held tells };
    owned = h.owned;
  }

  pub large_replies : (call : Call) (result : Result Reply NoMemory) → IfOk result (IsLargeReply call) → IfOk result (IsReply (origin meaning.told r) call)
  large_replies call (Ok reply) fits = record { class = λ lt. absurd (omega (arith, lt)); large = λ e. fits }
  large_replies call (Err none) fits = tt

  pub large_accepts : (call : Call) → IsAccepted (origin meaning.told r) r.entries call → Accepts meaning.told r call
  large_accepts (Allot asked align) x = absurd x
  large_accepts (Measure a) x = absurd x
  large_accepts (Fetch a len) x = absurd x
  large_accepts (Fill a runs) x = absurd x
  large_accepts (GiveBack a stated) x =
      let y = x.large refl in
      record { block = y.block; is = y.is; intact = y.intact; size = y.size }

-- ---- a call that it serves is one that a region of either kind serves
pub large_serves : {P : Type 0} (meaning : pages.Ghosts P) (held : Box (Region P)) (new : Region P) {old : Either P} {who : Who} {call : Call} {r : Result Reply NoMemory}
    → Large held ≡ old → ServesCall (large_regions meaning) who call held.value new r → ServesCall (regions meaning) who call old (Large (with_value held new)) r
large_serves meaning held new {old} {who} {call} {r} is s = subst (λ (z : Either _). ServesCall (regions meaning) who call z (Large (with_value held new)) r) is (record {
  before = large_sound meaning held.value s.before;
  after = large_sound meaning new s.after;
  origin = s.origin;
  added = s.added;
  replies = large_replies meaning held.value call r s.replies;
  memory = s.memory;
  accepted = λ x. s.accepted (large_accepts meaning held.value call x);
})

-- ---- a new region
pub large_origin_at : {P : Type 0} (told : P → Bool) (r : Region P) (c : Config) (seed : ℕ) → r.config ≡ c → r.seed ≡ seed
    → numbers_of (origin told r) ≡ numbers_of (record { config = c; seed = seed; region = large_region_number; told = told r.pages })
large_origin_at told r c seed config_is seed_is = λ i. numbers_of (record { config = config_is i; seed = seed_is i; region = large_region_number; told = told r.pages })
