-- The words of an entry determine it, and no space and no line feed stands in them.
use Rattle.std.proofs.Common.{◌≡◌, ℕ, cond, eqb, List, [], ◌∷◌, ◌++◌, drop, get_or, codes, refl, sym, ◌∙◌, ap, subst, arith, rules}
use Rattle.std.specs.Fmt.{decimal}
use Rattle.std.specs.List.{AllByRecursion as Each}
use Rattle.std.proofs.lemmas.List.Elements.{recursion_from_All as each}
use Rattle.std.proofs.lemmas.List.{append_cancel_left}
use Rattle.hm_model.specs.declared.entry.Call.{Call}
use Rattle.hm_model.specs.declared.entry.Call.TheVariants.{Allot, GiveBack, Measure, Fetch, Fill}
use Rattle.hm_model.specs.declared.entry.Choices.{Choices}
use Rattle.hm_model.specs.declared.entry.Draws.{Draws}
use Rattle.hm_model.specs.declared.entry.Entry.{Entry}
use Rattle.hm_model.specs.declared.entry.Reply.{Reply}
use Rattle.hm_model.specs.declared.entry.Reply.TheVariants.{Given, Overwritten, Exhausted, NoSpace, PagesFailed, Freed, NoSlot, Unused, DoubleFree, WrongSize, Canary, Usable, Bytes, Filled, Trap, NotLive}
use Rattle.hm_model.specs.declared.entry.Who.{Who}
use Rattle.hm_journal.specs.Entries.{call_words, choices_words, draws_words, entry_words, faults_words, reply_words, who_words}
use Rattle.hm_model.specs.Typed.{CallFits, ChoicesFit, DrawsFit, EntryFits, Fits8, Fits32, Fits64, ReplyFits, RunFits, WhoFits}
use Rattle.hm_journal.proofs.Each.{each_append}
use Rattle.hm_journal.proofs.Numbers.{byte, byte_is, clean_byte, clean_number, clean_option, clean_runs, number, number_is, option, option_is, runs, runs_is}
use Rattle.hm_journal.proofs.Splits.{High}

small8 : (n : ℕ) → Fits8 n → Fits64 n
small8 n h = omega (arith, h)

pub small32 : (n : ℕ) → Fits32 n → Fits64 n
small32 n h = omega (arith, h)

is8 : (n : ℕ) → Fits8 n → number (decimal n) ≡ n
is8 n h = number_is n (small8 n h)

pub is32 : (n : ℕ) → Fits32 n → number (decimal n) ≡ n
is32 n h = number_is n (small32 n h)

-- ---- who, what was drawn and chosen
abbrev who_of : List (List ℕ) → Who
who_of ws = record {
  caller = number (get_or ws 0 []);
  round = number (get_or ws 1 []);
  thread = number (get_or ws 2 []);
  step = number (get_or ws 3 []);
  part = number (get_or ws 4 []);
}

who_is : (w : Who) (rest : List (List ℕ)) → WhoFits w → who_of (who_words w ++ rest) ≡ w
who_is w rest h = λ i. record {
  caller = is32 w.caller h.0 i;
  round = is32 w.round h.1 i;
  thread = is32 w.thread h.2 i;
  step = is32 w.step h.3 i;
  part = is8 w.part h.4 i;
}

abbrev draws_of : List (List ℕ) → Draws
draws_of ws = record {
  used = number (get_or ws 0 []);
  w0 = number (get_or ws 1 []);
  w1 = number (get_or ws 2 []);
  w2 = number (get_or ws 3 []);
}

draws_is : (d : Draws) (rest : List (List ℕ)) → DrawsFit d → draws_of (draws_words d ++ rest) ≡ d
draws_is d rest h = λ i. record {
  used = is8 d.used h.0 i;
  w0 = is32 d.w0 h.1 i;
  w1 = is32 d.w1 h.2 i;
  w2 = is32 d.w2 h.3 i;
}

abbrev choices_of : List (List ℕ) → Choices
choices_of ws = record {
  canary = option (get_or ws 0 []);
  opened = option (get_or ws 1 []);
  released = option (get_or ws 2 []);
  retired = option (get_or ws 3 []);
  purged = option (get_or ws 4 []);
  unparked = option (get_or ws 5 []);
  guard = option (get_or ws 6 []);
}

choices_is : (c : Choices) (rest : List (List ℕ)) → ChoicesFit c → choices_of (choices_words c ++ rest) ≡ c
choices_is c rest h = λ i. record {
  canary = option_is c.canary h.0 i;
  opened = option_is c.opened h.1 i;
  released = option_is c.released h.2 i;
  retired = option_is c.retired h.3 i;
  purged = option_is c.purged h.4 i;
  unparked = option_is c.unparked h.5 i;
  guard = option_is c.guard h.6 i;
}

-- ---- the call: two letters of its name tell which
abbrev call_at : ℕ → ℕ → List ℕ → List ℕ → Call
call_at one two first second =
    cond (eqb one 97) (Allot (number first) (number second))
    (cond (eqb one 103) (GiveBack (number first) (option second))
    (cond (eqb one 109) (Measure (number first))
    (cond (eqb two 101) (Fetch (number first) (number second)) (Fill (number first) (runs second)))))

abbrev call_of : List (List ℕ) → Call
call_of ws = call_at (get_or (get_or ws 0 []) 0 0) (get_or (get_or ws 0 []) 1 0) (get_or ws 1 []) (get_or ws 2 [])

call_is : (c : Call) (rest : List (List ℕ)) → CallFits c → call_of (call_words c ++ rest) ≡ c
call_is (Allot asked align) rest h = λ i. Allot (number_is asked h.0 i) (number_is align h.1 i)
call_is (GiveBack addr stated) rest h = λ i. GiveBack (number_is addr h.0 i) (option_is stated h.1 i)
call_is (Measure addr) rest h = λ i. Measure (number_is addr h i)
call_is (Fetch addr len) rest h = λ i. Fetch (number_is addr h.0 i) (number_is len h.1 i)
call_is (Fill addr rs) rest h = λ i. Fill (number_is addr h.0 i) (runs_is rs (each RunFits rs h.1) i)

-- ---- the reply: its first one or two digits tell which
abbrev teen : ℕ → List ℕ → List ℕ → Reply
teen digit first second =
    cond (eqb digit 48) DoubleFree
    (cond (eqb digit 49) (WrongSize (number first) (number second))
    (cond (eqb digit 50) (Canary (number first) (number second))
    (cond (eqb digit 51) (Usable (number first))
    (cond (eqb digit 52) (Bytes (runs first))
    (cond (eqb digit 53) Filled
    (cond (eqb digit 54) (Trap (number first)) NotLive))))))

abbrev reply_at : List ℕ → List ℕ → List ℕ → List ℕ → Reply
reply_at [] first second third = NotLive
reply_at (digit ∷ []) first second third =
    cond (eqb digit 49) (Given (number first) (number second))
    (cond (eqb digit 50) (Overwritten (number first) (number second) (byte third))
    (cond (eqb digit 51) Exhausted
    (cond (eqb digit 52) NoSpace
    (cond (eqb digit 53) PagesFailed
    (cond (eqb digit 55) Freed
    (cond (eqb digit 56) NoSlot Unused))))))
reply_at (ten ∷ digit ∷ more) first second third = teen digit first second

abbrev reply_of : List (List ℕ) → Reply
reply_of ws = reply_at (get_or ws 0 []) (get_or ws 1 []) (get_or ws 2 []) (get_or ws 3 [])

reply_is : (r : Reply) → ReplyFits r → reply_of (reply_words r) ≡ r
reply_is (Given addr usable) h = λ i. Given (number_is addr h.0 i) (number_is usable h.1 i)
reply_is (Overwritten addr at found) h =
    λ i. Overwritten (number_is addr h.0 i) (number_is at h.1 i) (byte_is found h.2 i)
reply_is Exhausted h = refl
reply_is NoSpace h = refl
reply_is PagesFailed h = refl
reply_is Freed h = refl
reply_is NoSlot h = refl
reply_is Unused h = refl
reply_is DoubleFree h = refl
reply_is (WrongSize block stated) h = λ i. WrongSize (number_is block h.0 i) (number_is stated h.1 i)
reply_is (Canary kept found) h = λ i. Canary (number_is kept h.0 i) (number_is found h.1 i)
reply_is (Usable size) h = λ i. Usable (number_is size h i)
reply_is (Bytes rs) h = λ i. Bytes (runs_is rs (each RunFits rs h) i)
reply_is Filled h = refl
reply_is (Trap addr) h = λ i. Trap (number_is addr h i)
reply_is NotLive h = refl

same_reply : (r s : Reply) → ReplyFits r → ReplyFits s → reply_words r ≡ reply_words s → r ≡ s
same_reply r s h g e = sym (reply_is r h) ∙ ap reply_of e ∙ reply_is s g

same_call : (c d : Call) (rest more : List (List ℕ)) → CallFits c → CallFits d
    → call_words c ++ rest ≡ call_words d ++ more → c ≡ d
same_call c d rest more h g e = sym (call_is c rest h) ∙ ap call_of e ∙ call_is d more g

-- what follows the words of equal calls
same_rest : (c d : Call) (rest more : List (List ℕ)) → c ≡ d → call_words c ++ rest ≡ call_words d ++ more → rest ≡ more
same_rest c d rest more is e =
    append_cancel_left (call_words c) rest more
    (subst (λ (x : Call). call_words c ++ rest ≡ call_words x ++ more) (sym is) e)

-- ---- the whole entry
-- what follows the call's words
abbrev answer_words : Entry → List (List ℕ)
answer_words e = codes ":" ∷ reply_words e.reply

pub same_entry : (e f : Entry) → EntryFits e → EntryFits f → entry_words e ≡ entry_words f → e ≡ f
same_entry e f h g w =
    let tail : call_words e.call ++ answer_words e ≡ call_words f.call ++ answer_words f = ap (drop 18) w in
    let who : e.who ≡ f.who = sym (who_is e.who [] h.who) ∙ ap who_of w ∙ who_is f.who [] g.who in
    let before : e.faults_before ≡ f.faults_before =
    sym (number_is e.faults_before h.before) ∙ ap (λ (ws : List (List ℕ)). number (get_or ws 5 [])) w
    ∙ number_is f.faults_before g.before in
    let after : e.faults_after ≡ f.faults_after =
    sym (number_is e.faults_after h.after) ∙ ap (λ (ws : List (List ℕ)). number (get_or ws 6 [])) w
    ∙ number_is f.faults_after g.after in
    let draws : e.draws ≡ f.draws =
    sym (draws_is e.draws [] h.draws) ∙ ap (λ (ws : List (List ℕ)). draws_of (drop 7 ws)) w
    ∙ draws_is f.draws [] g.draws in
    let choices : e.choices ≡ f.choices =
    sym (choices_is e.choices [] h.choices) ∙ ap (λ (ws : List (List ℕ)). choices_of (drop 11 ws)) w
    ∙ choices_is f.choices [] g.choices in
    let call : e.call ≡ f.call = same_call e.call f.call (answer_words e) (answer_words f) h.call g.call tail in
    let rest = same_rest e.call f.call (answer_words e) (answer_words f) call tail in
    let reply : e.reply ≡ f.reply = same_reply e.reply f.reply h.reply g.reply (ap (drop 1) rest) in
    λ i. record {
      who = who i;
      call = call i;
      reply = reply i;
      choices = choices i;
      draws = draws i;
      faults_before = before i;
      faults_after = after i;
    }

-- ---- no space and no line feed
clean_call : (c : Call) → CallFits c → Each (High 33) (call_words c)
clean_call (Allot asked align) h = (search rules, (clean_number asked h.0, (clean_number align h.1, tt)))
clean_call (GiveBack addr stated) h = (search rules, (clean_number addr h.0, (clean_option stated h.1, tt)))
clean_call (Measure addr) h = (search rules, (clean_number addr h, tt))
clean_call (Fetch addr len) h = (search rules, (clean_number addr h.0, (clean_number len h.1, tt)))
clean_call (Fill addr rs) h = (search rules, (clean_number addr h.0, (clean_runs rs (each RunFits rs h.1), tt)))

clean_reply : (r : Reply) → ReplyFits r → Each (High 33) (reply_words r)
clean_reply (Given addr usable) h = (search rules, (clean_number addr h.0, (clean_number usable h.1, tt)))
clean_reply (Overwritten addr at found) h =
    (search rules, (clean_number addr h.0, (clean_number at h.1, (clean_byte found, tt))))
clean_reply Exhausted h = search rules
clean_reply NoSpace h = search rules
clean_reply PagesFailed h = search rules
clean_reply Freed h = search rules
clean_reply NoSlot h = search rules
clean_reply Unused h = search rules
clean_reply DoubleFree h = search rules
clean_reply (WrongSize block stated) h = (search rules, (clean_number block h.0, (clean_number stated h.1, tt)))
clean_reply (Canary kept found) h = (search rules, (clean_number kept h.0, (clean_number found h.1, tt)))
clean_reply (Usable size) h = (search rules, (clean_number size h, tt))
clean_reply (Bytes rs) h = (search rules, (clean_runs rs (each RunFits rs h), tt))
clean_reply Filled h = search rules
clean_reply (Trap addr) h = (search rules, (clean_number addr h, tt))
clean_reply NotLive h = search rules

clean8 : (n : ℕ) → Fits8 n → High 33 (decimal n)
clean8 n h = clean_number n (small8 n h)

pub clean32 : (n : ℕ) → Fits32 n → High 33 (decimal n)
clean32 n h = clean_number n (small32 n h)

clean_who : (w : Who) → WhoFits w → Each (High 33) (who_words w)
clean_who w h =
    (clean32 w.caller h.0, (clean32 w.round h.1, (clean32 w.thread h.2, (clean32 w.step h.3, (clean8 w.part h.4, tt)))))

clean_draws : (d : Draws) → DrawsFit d → Each (High 33) (draws_words d)
clean_draws d h = (clean8 d.used h.0, (clean32 d.w0 h.1, (clean32 d.w1 h.2, (clean32 d.w2 h.3, tt))))

clean_choices : (c : Choices) → ChoicesFit c → Each (High 33) (choices_words c)
clean_choices c h = (
  clean_option c.canary h.0,
  (
    clean_option c.opened h.1,
    (
      clean_option c.released h.2,
      (
        clean_option c.retired h.3,
        (clean_option c.purged h.4, (clean_option c.unparked h.5, (clean_option c.guard h.6, tt))),
      ),
    ),
  ),
)

clean_parts : (a b c d f g : List (List ℕ)) → Each (High 33) a → Each (High 33) b → Each (High 33) c → Each (High 33) d
    → Each (High 33) f → Each (High 33) g
    → Each (High 33) (a ++ b ++ c ++ d ++ f ++ codes ":" ∷ g)
clean_parts a b c d f g ha hb hc hd hf hg =
    each_append (High 33) (a ++ b ++ c ++ d ++ f) (codes ":" ∷ g)
    (each_append (High 33) (a ++ b ++ c ++ d) f
    (each_append (High 33) (a ++ b ++ c) d (each_append (High 33) (a ++ b) c (each_append (High 33) a b ha hb) hc) hd)
    hf)
    (search rules, hg)

pub clean_entry : (e : Entry) → EntryFits e → Each (High 33) (entry_words e)
clean_entry e h =
    clean_parts (who_words e.who) (faults_words e) (draws_words e.draws) (choices_words e.choices) (call_words e.call)
    (reply_words e.reply)
    (clean_who e.who h.who) (clean_number e.faults_before h.before, (clean_number e.faults_after h.after, tt))
    (clean_draws e.draws h.draws)
    (clean_choices e.choices h.choices) (clean_call e.call h.call) (clean_reply e.reply h.reply)
