-- One entry only.
use Rattle.std.proofs.Common.{◌≡◌, ℕ, Bool, true, false, ◌||◌, List, Option, sym, ◌∙◌, ap, subst, refl, true≢false}
use Rattle.std.specs.Prelude.{is_some, IsTrue}
use Rattle.hm_model.specs.declared.entry.Entry.{Entry}
use Rattle.hm_model.specs.declared.entry.Choices.{Choices}
use Rattle.hm_model.specs.declared.entry.Call.{Call}
use Rattle.hm_model.specs.declared.entry.Call.TheVariants.{Allot, GiveBack, Measure, Fetch, Fill}
use Rattle.hm_model.specs.declared.entry.Reply.{Reply}
use Rattle.hm_model.specs.declared.entry.Reply.TheVariants.{Given, Overwritten, Exhausted, PagesFailed}
use Rattle.hm_sizes.specs.Shapes.{IsShape}
use Rattle.hm_class_rules.specs.State.{State}
use Rattle.hm_class_rules.specs.Rules.{Terms, Allows, state}
use Rattle.hm_class_rules.specs.Stepped.{Cells, cells}
use Rattle.hm_class_rules.proofs.NextEntry.{lists_are_kept}
use Rattle.hm_model.specs.Replies.{is_page_fault}
use Rattle.hm_class_rules.specs.OneEntry.{IsNext, OneEntry}
use Rattle.hm_class_rules.proofs.SameParts.{Stands, Agree, allot_agree, back_agree, measure_agree, fetch_agree, fill_agree}

-- an allotment purges nothing
no_purge : (t : Terms) (c : Cells) (e : Entry) (asked align : ℕ) (r : Reply) → Stands t c e (Allot asked align) r → is_some e.choices.purged ≡ false
no_purge t c e asked align (Given a size) x = ap (λ (ch : Choices). is_some ch.purged) x.allows.0.choices
no_purge t c e asked align (Overwritten a at found) x = ap (λ (ch : Choices). is_some ch.purged) x.allows.0.choices
no_purge t c e asked align Exhausted x = ap (λ (ch : Choices). is_some ch.purged) x.allows.2
no_purge t c e asked align PagesFailed x = ap (λ (ch : Choices). is_some ch.purged) x.allows.4
no_purge t c e asked align r x = absurd x.allows

-- a free never answers with a page fault
no_fault : (t : Terms) (c : Cells) (e : Entry) (a : ℕ) (stated : Option ℕ) (r : Reply) → Stands t c e (GiveBack a stated) r → is_page_fault r ≡ false
no_fault t c e a stated PagesFailed x = absurd x.allows
no_fault t c e a stated r x = refl

left : (a b c d : Bool) → (a || b) ≡ (c || d) → b ≡ false → d ≡ false → a ≡ c
left true b true d h e f = refl
left false b false d h e f = refl
left true b false d h e f = absurd (true≢false (h ∙ f))
left false b true d h e f = absurd (true≢false (sym h ∙ e))

right : (a b c d : Bool) → (a || b) ≡ (c || d) → a ≡ false → c ≡ false → b ≡ d
right false b false d h e f = h
right true b c d h e f = absurd (true≢false e)
right false b true d h e f = absurd (true≢false f)

pub agree : (t : Terms) (c : Cells) (e f : Entry) (call : Call) (r q : Reply) → IsShape t.shape → IsTrue t.told
    → (is_page_fault r || is_some e.choices.purged) ≡ (is_page_fault q || is_some f.choices.purged)
    → Stands t c e call r → Stands t c f call q → Agree e f r q
agree t c e f (Allot asked align) r q shape told flag x y =
    allot_agree t c shape told e f asked align r q (left _ _ _ _ flag (no_purge t c e asked align r x) (no_purge t c f asked align q y)) x y
agree t c e f (GiveBack a stated) r q shape told flag x y =
    back_agree t c told e f a stated r q (right _ _ _ _ flag (no_fault t c e a stated r x) (no_fault t c f a stated q y)) x y
agree t c e f (Measure a) r q shape told flag x y = measure_agree t c told e f a r q x y
agree t c e f (Fetch a len) r q shape told flag x y = fetch_agree t c told e f a len r q x y
agree t c e f (Fill a runs) r q shape told flag x y = fill_agree t c told e f a runs r q x y

stands : (seed arena : ℕ) (t : Terms) (es : List Entry) (e : Entry) → (cells seed arena t es).state ≡ state t es → IsNext seed arena t es e → Stands t (cells seed arena t es) e e.call e.reply
stands seed arena t es e same next = record {
  before = e.faults_before;
  now = e.faults_after;
  allows = subst (λ (s : State). Allows t s e.faults_before e.faults_after e.choices e.call e.reply) (sym same) next.allowed.allows;
  draws = next.allowed.draws;
  count = next.drawn.count;
  words = next.drawn.words;
  stepped = next.drawn.choices;
  runs = next.runs;
}

pub one_next : OneEntry
one_next seed arena t es e f some shape told legal stepped x y who call after flag =
    let same : (cells seed arena t es).state ≡ state t es = (lists_are_kept seed arena t es some shape legal stepped).state_is in
    let there : Stands t (cells seed arena t es) f e.call f.reply =
    subst (λ (k : Call). Stands t (cells seed arena t es) f k f.reply) (sym call) (stands seed arena t es f same y) in
    let both : Agree e f e.reply f.reply =
    agree t (cells seed arena t es) e f e.call e.reply f.reply shape told flag (stands seed arena t es e same x) there in
    let before : e.faults_before ≡ f.faults_before = x.allowed.follows ∙ sym y.allowed.follows in
    λ i. record {
      who = who i;
      call = call i;
      reply = both.replies i;
      choices = both.choices i;
      draws = both.draws i;
      faults_before = before i;
      faults_after = after i;
    }
