-- The call of a request, what it asks of its arguments, and what is replied, by the region.
use Rattle.std.specs.Prelude.{◌≡◌, ◌<◌, ◌≤◌, ◌%◌, ◌^◌, ℕ, List, length, ⊤}
use Rattle.hm_model.specs.declared.answer.Answer.{Answer}
use Rattle.hm_model.specs.declared.answer.Answer.TheVariants as answer
use Rattle.hm_model.specs.declared.entry.Call.{Call}
use Rattle.hm_model.specs.declared.entry.Call.TheVariants.{Allot, GiveBack, Measure, Fetch, Fill}
use Rattle.hm_model.specs.declared.entry.Reply.{Reply}
use Rattle.hm_model.specs.declared.entry.Reply.TheVariants.{Given, Bytes}
use Rattle.hm_model.specs.Calls.{AsksRange}
use Rattle.hm_model.specs.Replies.{IsClassReply, IsLargeReply}
use Rattle.hm_model.specs.Runs.{expand}
use Rattle.hm_sizes.specs.declared.class.Kind.{Kind}
use Rattle.hm_sizes.specs.declared.class.Kind.TheVariants.{Small, Large, TooLarge}
use Rattle.hm_sizes.specs.Aligned.{IsAlignment}
use Rattle.hm_sizes.specs.Classes.{class_count, class_size}
use Rattle.hm_sizes.specs.Origins.{Origin, large_region_number}
use Rattle.hm_sizes.specs.Shapes.{usable}
use Rattle.hm_sizes.specs.Sizes.{raised}
use Rattle.hm_large_rules.specs.Rules as large_rules
use Rattle.hm_heap.specs.declared.request.Request.{Request}
use Rattle.hm_heap.specs.declared.request.Request.TheVariants as request
use Rattle.hm_heap.specs.Lawful.{class_terms}

-- ---- requests
abbrev pub call_of : Request → Call
call_of (request.Allot asked align) = Allot asked align
call_of (request.GiveBack addr stated) = GiveBack addr stated
call_of (request.Measure addr) = Measure addr
call_of (request.Fetch addr len) = Fetch addr len
call_of (request.Fill addr runs) = Fill addr runs.now

-- ---- arguments
abbrev pub AsksOfClass : ℕ → Call → Type 0
AsksOfClass class (Allot asked align) = (raised asked ≤ class_size class) × (align ≡ 1)
AsksOfClass class call = AsksRange call

-- of the region with this number
pub record Asks (region : ℕ) (call : Call) : Type 0 where
  pub class : region < large_region_number → AsksOfClass (region % class_count) call
  pub large : region ≡ large_region_number → large_rules.Asks call

-- of any region, where an address is asked for
abbrev pub AsksAtHome : Call → Type 0
AsksAtHome (Allot asked align) = ⊥
AsksAtHome call = AsksRange call

-- of the region in which a block of this kind is asked for
abbrev pub AsksOfKind : ℕ → ℕ → Kind → Type 0
AsksOfKind asked align (Small class) = (class.0 < class_count) × (raised asked ≤ class_size class.0)
AsksOfKind asked align (Large size) = (asked ≤ 2 ^ 30) × IsAlignment align
AsksOfKind asked align TooLarge = ⊤

-- ---- replies
pub record IsReply (o : Origin) (call : Call) (reply : Reply) : Type 0 where
  pub class : o.region < large_region_number → IsClassReply (usable (class_terms o).shape) call reply
  pub large : o.region ≡ large_region_number → IsLargeReply call reply

-- where blocks lie
abbrev pub IsInReach : ℕ → Type 0
IsInReach a = (2 ^ 40 ≤ a) × (a < 2 ^ 47)

-- how far a reply reaches, whatever the region: where a given block begins, and that as many bytes come as were
-- asked for
pub record Reaches (call : Call) (reply : Reply) : Type 0 where
  pub given : (a usable : ℕ) → reply ≡ Given a usable → IsInReach a
  pub bytes : (a len : ℕ) (runs : List (ℕ × ℕ)) → call ≡ Fetch a len → reply ≡ Bytes runs → length (expand runs) ≡ len

-- ---- where the block of an answer lies
abbrev pub ReplyInReach : Reply → Type 0
ReplyInReach (Given a usable) = IsInReach a
ReplyInReach reply = ⊤

abbrev pub AnswerInReach : Answer → Type 0
AnswerInReach (answer.Reply reply) = ReplyInReach reply
AnswerInReach (answer.Kept a usable) = IsInReach a
AnswerInReach (answer.HalfMoved a usable cause) = IsInReach a
AnswerInReach other = ⊤
