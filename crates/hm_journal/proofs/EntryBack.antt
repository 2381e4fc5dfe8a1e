-- What is read of an entry's words is the entry.
use Rattle.std.proofs.Common.{◌≡◌, IfOk, Result, ℕ, ◌-◌, List, [], ◌∷◌, ◌++◌, drop, length, Option, Some, refl, sym, ◌∙◌, ap, codes, subst, length-append, ◌==◌, arith}
use Rattle.std.specs.List.{join_with_byte, slice_split}
use Rattle.std.proofs.lemmas.List.{take_at}
use Rattle.std.proofs.lemmas.List.Elements.{recursion_from_All as each}
use Rattle.hm_model.specs.declared.entry.Call.{Call}
use Rattle.hm_model.specs.declared.entry.Call.TheVariants.{Allot, GiveBack, Measure, Fetch, Fill}
use Rattle.hm_model.specs.declared.entry.Entry.{Entry}
use Rattle.hm_model.specs.declared.entry.Reply.{Reply}
use Rattle.hm_model.specs.declared.entry.Reply.TheVariants.{Given, Overwritten, Exhausted, NoSpace, PagesFailed, Freed, NoSlot, Unused, DoubleFree, WrongSize, Canary, Usable, Bytes, Filled, Trap, NotLive}
use Rattle.hm_journal.specs.Entries.{call_words, entry_words, reply_words}
use Rattle.hm_model.specs.Typed.{CallFits, ChoicesFit, DrawsFit, EntryFits, EntryRuns, ReplyFits, RunFits, WhoFits}
use Rattle.hm_journal.specs.Reading.{answer_at, call_at, call_length, choices_at, draws_at, entry_of, long_reply_at, reply_at, short_reply_at, who_at, word_at, words_at}
use Rattle.hm_model.specs.Calls.{CallRuns}
use Rattle.hm_model.specs.Replies.{HasRuns}
use Rattle.hm_journal.specs.Words.{line_text}
use Rattle.hm_journal.proofs.OneEntry.{clean_entry}
use Rattle.hm_journal.proofs.ReadBack.{byte_back, number8_back, number32_back, number_back, option_back, pairs_back}
use Rattle.hm_journal.proofs.Splits.{IsLine, split_joined, words_lack}

-- ---- the words of a line
pub words_back : (words : List (List ℕ)) → IsLine words → words_at (line_text words) ≡ words
words_back [] h = absurd h
words_back (word ∷ words) h =
    let line : List ℕ = join_with_byte 32 (word ∷ words) in
    ap (slice_split (λ (b : ℕ). b == 32)) (take_at line (10 ∷ []) (length (line ++ 10 ∷ []) - 1) (fed line))
    ∙ split_joined 32 word words (words_lack 32 (word ∷ words) (omega arith) h)
  where
    fed : (line : List ℕ) → length line ≡ length (line ++ 10 ∷ []) - 1
    fed line = simp length-append (omega arith)

-- ---- the call
call_back : (c : Call) (rest : List (List ℕ)) → CallFits c → call_at (call_words c ++ rest) ≡ Some c
unfolding call_at
call_back (Allot asked align) rest h = λ i. Some (Allot (number_back asked h.0 i) (number_back align h.1 i))
call_back (GiveBack addr stated) rest h = λ i. Some (GiveBack (number_back addr h.0 i) (option_back stated h.1 i))
call_back (Measure addr) rest h = λ i. Some (Measure (number_back addr h i))
call_back (Fetch addr len) rest h = λ i. Some (Fetch (number_back addr h.0 i) (number_back len h.1 i))
call_back (Fill addr rs) rest h = λ i. Some (Fill (number_back addr h.0 i) (pairs_back rs (each RunFits rs h.1) i))

behind : (c : Call) (rest : List (List ℕ))
    → drop (call_length (word_at (call_words c ++ rest) 0)) (call_words c ++ rest) ≡ rest
unfolding call_length
behind (Allot asked align) rest = refl
behind (GiveBack addr stated) rest = refl
behind (Measure addr) rest = refl
behind (Fetch addr len) rest = refl
behind (Fill addr rs) rest = refl

-- ---- the reply
reply_back : (r : Reply) → ReplyFits r → reply_at (reply_words r) ≡ Some r
unfolding reply_at short_reply_at long_reply_at
reply_back (Given addr usable) h = λ i. Some (Given (number_back addr h.0 i) (number_back usable h.1 i))
reply_back (Overwritten addr at found) h =
    λ i. Some (Overwritten (number_back addr h.0 i) (number_back at h.1 i) (byte_back found [] h.2 i))
reply_back Exhausted h = refl
reply_back NoSpace h = refl
reply_back PagesFailed h = refl
reply_back Freed h = refl
reply_back NoSlot h = refl
reply_back Unused h = refl
reply_back DoubleFree h = refl
reply_back (WrongSize block stated) h = λ i. Some (WrongSize (number_back block h.0 i) (number_back stated h.1 i))
reply_back (Canary kept found) h = λ i. Some (Canary (number_back kept h.0 i) (number_back found h.1 i))
reply_back (Usable size) h = λ i. Some (Usable (number_back size h i))
reply_back (Bytes rs) h = λ i. Some (Bytes (pairs_back rs (each RunFits rs h) i))
reply_back Filled h = refl
reply_back (Trap addr) h = λ i. Some (Trap (number_back addr h i))
reply_back NotLive h = refl

-- ---- who called, what was drawn and chosen
who_back : (e : Entry) → WhoFits e.who → who_at (entry_words e) ≡ e.who
unfolding who_at
who_back e h = λ i. record {
  caller = number32_back e.who.caller h.0 i;
  round = number32_back e.who.round h.1 i;
  thread = number32_back e.who.thread h.2 i;
  step = number32_back e.who.step h.3 i;
  part = number8_back e.who.part h.4 i;
}

draws_back : (e : Entry) → DrawsFit e.draws → draws_at (entry_words e) ≡ e.draws
unfolding draws_at
draws_back e h = λ i. record {
  used = number8_back e.draws.used h.0 i;
  w0 = number32_back e.draws.w0 h.1 i;
  w1 = number32_back e.draws.w1 h.2 i;
  w2 = number32_back e.draws.w2 h.3 i;
}

choices_back : (e : Entry) → ChoicesFit e.choices → choices_at (entry_words e) ≡ e.choices
unfolding choices_at
choices_back e h = λ i. record {
  canary = option_back e.choices.canary h.0 i;
  opened = option_back e.choices.opened h.1 i;
  released = option_back e.choices.released h.2 i;
  retired = option_back e.choices.retired h.3 i;
  purged = option_back e.choices.purged h.4 i;
  unparked = option_back e.choices.unparked h.5 i;
  guard = option_back e.choices.guard h.6 i;
}

-- ---- the whole entry
-- what is read of an entry's words
pub record IsRead (e : Entry) (words : List (List ℕ)) : Type 0 where
  pub call : call_at (drop 18 words) ≡ Some e.call
  pub reply : reply_at (answer_at words) ≡ Some e.reply
  pub entry : entry_of words e.call e.reply ≡ e

is_read : (e : Entry) → EntryFits e → IsRead e (entry_words e)
is_read e h = record {
  call = call_back e.call (codes ":" ∷ reply_words e.reply) h.call;
  reply = ap reply_at (answer_back e) ∙ reply_back e.reply h.reply;
  entry = λ i. record {
    who = who_back e h.who i;
    call = e.call;
    reply = e.reply;
    choices = choices_back e h.choices i;
    draws = draws_back e h.draws i;
    faults_before = number_back e.faults_before h.before i;
    faults_after = number_back e.faults_after h.after i;
  };
}
  where
    answer_back : (e : Entry) → answer_at (entry_words e) ≡ reply_words e.reply
    answer_back e = ap (drop 1) (behind e.call (codes ":" ∷ reply_words e.reply))

-- what is read of an entry's line
pub line_read : (e : Entry) (line : List ℕ) → EntryFits e → line ≡ line_text (entry_words e) → IsRead e (words_at line)
line_read e line h is =
    subst (IsRead e) (sym (ap words_at is ∙ words_back (entry_words e) (clean_entry e h))) (is_read e h)

pub clean_entry_line : (e : Entry) → EntryFits e → IsLine (entry_words e)
clean_entry_line e h = clean_entry e h

-- an entry that is made of what a line's words would say is the one that has the line
pub guessed : {E : Type 0} (r : Result (Option Entry) E) (line : List ℕ) (said : List (List ℕ)) → said ≡ words_at line
    → ((call : Call) (reply : Reply) → call_at (drop 18 said) ≡ Some call → reply_at (answer_at said) ≡ Some reply
    → CallRuns call → HasRuns reply → IfOk r (λ o. o ≡ Some (entry_of said call reply)))
    → (e : Entry) → EntryFits e → EntryRuns e → line ≡ line_text (entry_words e) → IfOk r (λ o. o ≡ Some e)
guessed r line said words gives e fits runs is =
    let read = subst (IsRead e) (sym words) (line_read e line fits is) in
    subst (λ (x : Entry). IfOk r (λ o. o ≡ Some x)) read.entry
    (gives e.call e.reply read.call read.reply runs.call runs.reply)
