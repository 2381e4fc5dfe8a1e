-- One entry of the large region only.
use Rattle.std.proofs.Common.{◌≡◌, ℕ, ◌≤◌, Bool, true, false, List, Option, Some, None, sym, ◌∙◌, ap, subst, refl, arith, true≢false}
use Rattle.std.specs.Prelude.{IsTrue, is_some, option_map, unwrap_or}
use Rattle.std.specs.Bool.{MatchBool}
use Rattle.std.proofs.lemmas.Option.{none-some, same_Some}
use Rattle.hm_quarantine.specs.LookingBack.{released}
use Rattle.hm_model.specs.Calls.{no_choices, no_words, one_word}
use Rattle.hm_model.specs.Maps.{at, has}
use Rattle.hm_model.specs.declared.entry.Entry.{Entry}
use Rattle.hm_model.specs.declared.entry.Choices.{Choices}
use Rattle.hm_model.specs.declared.entry.Call.{Call}
use Rattle.hm_model.specs.declared.entry.Call.TheVariants.{Allot, GiveBack, Measure, Fetch, Fill}
use Rattle.hm_model.specs.declared.entry.Reply.{Reply}
use Rattle.hm_model.specs.declared.entry.Reply.TheVariants.{Given, NoSpace, PagesFailed, Freed, WrongSize, NotLive, Usable, Bytes, Filled, Trap}
use Rattle.hm_large_rules.specs.State.{Block, size_for, is_quarantined, State, array_length, ring_length}
use Rattle.hm_large_rules.specs.Draws.{guard_of, word_at}
use Rattle.hm_large_rules.specs.Steps.{takes_back, free_at}
use Rattle.hm_large_rules.specs.Rules.{Terms, Allows, IsCandidate, IsLeastCandidate, chose_guard, wrong_size, Releases, ReleasesFor}
use Rattle.hm_large_rules.specs.Drawn.{IsDrawnFree, IsDrawnEvent}
use Rattle.hm_large_rules.specs.OneEntry.{is_page_fault, HasRuns, IsNext, OneEntry}
use Rattle.hm_large_rules.proofs.SameRuns.{same_runs}

-- two entries agree in their replies, choices and words
record Agree (e f : Entry) (r q : Reply) : Type 0 where
  replies : r ≡ q
  choices : e.choices ≡ f.choices
  draws : e.draws ≡ f.draws

record Follows (seed : ℕ) (t : Terms) (s : State) (e : Entry) (call : Call) (r : Reply) : Type 0 where
  allows : Allows t s e call r
  draws : IsDrawnEvent seed s e call r
  runs : HasRuns r

least_order : (a b : ℕ) → a ≤ b → b ≤ a → a ≡ b
least_order a b h g = omega arith

module _ (seed : ℕ) (t : Terms) (s : State) (told : IsTrue t.told) (e f : Entry) where
  -- nothing is chosen or drawn
  plain : (r q : Reply) → r ≡ q → e.choices ≡ no_choices → f.choices ≡ no_choices → e.draws ≡ no_words → f.draws ≡ no_words → Agree e f r q
  plain r q same a b c d = record { replies = same; choices = a ∙ sym b; draws = c ∙ sym d }

  -- ---- allotting
  module _ (asked align : ℕ) where
    drawn_guard : ℕ
    drawn_guard = guard_of (size_for asked) (word_at seed s.words)

    guarded : (g : Entry) → g.choices ≡ chose_guard (unwrap_or g.choices.guard 0) → g.choices.guard ≡ Some drawn_guard → g.choices ≡ chose_guard drawn_guard
    guarded g x y = x ∙ ap (λ (o : Option ℕ). chose_guard (unwrap_or o 0)) y

    chosen : (g : Entry) (r : Reply) → Follows seed t s g (Allot asked align) r → g.choices ≡ chose_guard drawn_guard
    unfolding drawn_guard
    chosen g (Given a usable) x = guarded g x.allows.1 x.draws.1
    chosen g NoSpace x = guarded g x.allows.1 x.draws.1
    chosen g PagesFailed x = guarded g x.allows.1 x.draws.1
    chosen g r x = absurd x.allows

    drawn_word : (g : Entry) (r : Reply) → Follows seed t s g (Allot asked align) r → g.draws ≡ one_word (word_at seed s.words)
    drawn_word g r x = x.draws.0

    same_guard : e.choices ≡ f.choices → unwrap_or e.choices.guard 0 ≡ unwrap_or f.choices.guard 0
    same_guard x = ap (λ (c : Choices). unwrap_or c.guard 0) x

    replies : (r q : Reply) → e.choices ≡ f.choices → is_page_fault r ≡ is_page_fault q → Follows seed t s e (Allot asked align) r → Follows seed t s f (Allot asked align) q → r ≡ q
    replies (Given a n) (Given b m) same flag x y =
        let there : IsLeastCandidate t.config s align (size_for asked) (unwrap_or e.choices.guard 0) b =
        subst (λ (g : ℕ). IsLeastCandidate t.config s align (size_for asked) g b) (sym (same_guard same)) y.allows.0.0 in
        let here : IsLeastCandidate t.config s align (size_for asked) (unwrap_or e.choices.guard 0) a = x.allows.0.0 in
        let place : a ≡ b = least_order a b (here.least b there.fits) (there.least a here.fits) in
        let size : n ≡ m = x.allows.0.1 ∙ sym y.allows.0.1 in
        λ i. Given (place i) (size i)
    replies (Given a n) NoSpace same flag x y =
        absurd (y.allows.0 a (subst (λ (g : ℕ). IsCandidate t.config s align (size_for asked) g a) (same_guard same) x.allows.0.0.fits))
    replies (Given a n) PagesFailed same flag x y = absurd (true≢false (sym flag))
    replies NoSpace (Given b m) same flag x y =
        absurd (x.allows.0 b (subst (λ (g : ℕ). IsCandidate t.config s align (size_for asked) g b) (sym (same_guard same)) y.allows.0.0.fits))
    replies NoSpace NoSpace same flag x y = refl
    replies NoSpace PagesFailed same flag x y = absurd (true≢false (sym flag))
    replies PagesFailed PagesFailed same flag x y = refl
    replies PagesFailed q same flag x y = absurd (true≢false flag)
    replies (Given a n) q same flag x y = absurd y.allows
    replies NoSpace q same flag x y = absurd y.allows
    replies r q same flag x y = absurd x.allows

    allot_agree : (r q : Reply) → is_page_fault r ≡ is_page_fault q → Follows seed t s e (Allot asked align) r → Follows seed t s f (Allot asked align) q → Agree e f r q
    allot_agree r q flag x y =
        let same : e.choices ≡ f.choices = chosen e r x ∙ sym (chosen f q y) in
        record { replies = replies r q same flag x y; choices = same; draws = drawn_word e r x ∙ sym (drawn_word f q y) }

  -- ---- giving back
  some_wrong : (a : ℕ) (stated : Option ℕ) (w : ℕ × ℕ) → wrong_size (at a s.live) stated ≡ Some w → has a s.live ≡ false → ⊥
  some_wrong a stated w h g = of (at a s.live) h g
    where
      of : (o : Option Block) → wrong_size o stated ≡ Some w → is_some o ≡ false → ⊥
      of None h g = none-some w h
      of (Some b) h g = true≢false g

  freed_draws : (a : ℕ) (o : Option Block) → IsDrawnFree seed s a e o → IsDrawnFree seed s a f o
      → ReleasesFor o (takes_back a e.draws.w0 o s) e.choices.released → ReleasesFor o (takes_back a f.draws.w0 o s) f.choices.released
      → (e.draws ≡ f.draws) × (e.choices.released ≡ f.choices.released)
  freed_draws a None x y u v = absurd x
  freed_draws a (Some b) x y u v =
      of (is_quarantined b) x y u v
    where
      of : (q : Bool)
          → MatchBool q ((e.draws ≡ one_word (word_at seed s.words)) × (e.choices.released ≡ released array_length ring_length s.frees (free_at a (word_at seed s.words)))) (e.draws ≡ no_words)
          → MatchBool q ((f.draws ≡ one_word (word_at seed s.words)) × (f.choices.released ≡ released array_length ring_length s.frees (free_at a (word_at seed s.words)))) (f.draws ≡ no_words)
          → MatchBool q (Releases (takes_back a e.draws.w0 (Some b) s) e.choices.released) (e.choices.released ≡ None)
          → MatchBool q (Releases (takes_back a f.draws.w0 (Some b) s) f.choices.released) (f.choices.released ≡ None)
          → (e.draws ≡ f.draws) × (e.choices.released ≡ f.choices.released)
      of true x y u v = (x.0 ∙ sym y.0, x.1 ∙ sym y.1)
      of false x y u v = (x ∙ sym y, u ∙ sym v)

  back_agree : (a : ℕ) (stated : Option ℕ) (r q : Reply) → is_page_fault r ≡ is_page_fault q → Follows seed t s e (GiveBack a stated) r → Follows seed t s f (GiveBack a stated) q → Agree e f r q
  back_agree a stated NotLive NotLive flag x y = plain NotLive NotLive refl x.allows.1 y.allows.1 x.draws y.draws
  back_agree a stated NotLive (WrongSize k l) flag x y = absurd (some_wrong a stated (k, l) y.allows.0 x.allows.0)
  back_agree a stated NotLive PagesFailed flag x y = absurd (true≢false (sym flag))
  back_agree a stated NotLive Freed flag x y = absurd (true≢false (sym y.allows.block ∙ x.allows.0))
  back_agree a stated (WrongSize k l) NotLive flag x y = absurd (some_wrong a stated (k, l) x.allows.0 y.allows.0)
  back_agree a stated (WrongSize k l) (WrongSize m n) flag x y =
      let both : (k, l) ≡ (m, n) = same_Some (k, l) (m, n) (sym x.allows.0 ∙ y.allows.0) in
      plain (WrongSize k l) (WrongSize m n) (ap (λ (w : ℕ × ℕ). WrongSize w.0 w.1) both) x.allows.1 y.allows.1 x.draws y.draws
  back_agree a stated (WrongSize k l) PagesFailed flag x y = absurd (true≢false (sym flag))
  back_agree a stated (WrongSize k l) Freed flag x y = absurd (none-some (k, l) (sym y.allows.size ∙ x.allows.0))
  back_agree a stated PagesFailed PagesFailed flag x y = plain PagesFailed PagesFailed refl x.allows.3 y.allows.3 x.draws y.draws
  back_agree a stated PagesFailed q flag x y = absurd (true≢false flag)
  back_agree a stated Freed NotLive flag x y = absurd (true≢false (sym x.allows.block ∙ y.allows.0))
  back_agree a stated Freed (WrongSize m n) flag x y = absurd (none-some (m, n) (sym x.allows.size ∙ y.allows.0))
  back_agree a stated Freed PagesFailed flag x y = absurd (true≢false (sym flag))
  back_agree a stated Freed Freed flag x y =
      let both : (e.draws ≡ f.draws) × (e.choices.released ≡ f.choices.released) =
      freed_draws a (at a s.live) x.draws y.draws x.allows.release y.allows.release in
      record {
        replies = refl;
        choices = x.allows.choices ∙ (λ i. record no_choices { released = both.1 i }) ∙ sym y.allows.choices;
        draws = both.0;
      }
  back_agree a stated NotLive q flag x y = absurd y.allows
  back_agree a stated (WrongSize k l) q flag x y = absurd y.allows
  back_agree a stated Freed q flag x y = absurd y.allows
  back_agree a stated r q flag x y = absurd x.allows

  -- ---- measuring
  measure_agree : (a : ℕ) (r q : Reply) → Follows seed t s e (Measure a) r → Follows seed t s f (Measure a) q → Agree e f r q
  measure_agree a NotLive NotLive x y = plain NotLive NotLive refl x.allows.1 y.allows.1 x.draws y.draws
  measure_agree a NotLive (Usable n) x y = absurd (size_there (at a s.live) n x.allows.0 y.allows.0)
    where
      size_there : (o : Option Block) (n : ℕ) → is_some o ≡ false → option_map (λ (b : Block). b.size) o ≡ Some n → ⊥
      size_there None n h g = none-some n g
      size_there (Some b) n h g = true≢false h
  measure_agree a (Usable n) NotLive x y = absurd (size_there (at a s.live) n y.allows.0 x.allows.0)
    where
      size_there : (o : Option Block) (n : ℕ) → is_some o ≡ false → option_map (λ (b : Block). b.size) o ≡ Some n → ⊥
      size_there None n h g = none-some n g
      size_there (Some b) n h g = true≢false h
  measure_agree a (Usable n) (Usable m) x y =
      plain (Usable n) (Usable m) (ap (λ (k : ℕ). Usable k) (same_Some n m (sym x.allows.0 ∙ y.allows.0))) x.allows.1 y.allows.1 x.draws y.draws
  measure_agree a NotLive q x y = absurd y.allows
  measure_agree a (Usable n) q x y = absurd y.allows
  measure_agree a r q x y = absurd x.allows

  -- ---- reading and writing
  fetch_agree : (a len : ℕ) (r q : Reply) → Follows seed t s e (Fetch a len) r → Follows seed t s f (Fetch a len) q → Agree e f r q
  fetch_agree a len (Bytes xs) (Bytes ys) x y =
      plain (Bytes xs) (Bytes ys) (ap (λ (l : List (ℕ × ℕ)). Bytes l) (same_runs xs ys x.runs y.runs ((x.allows.1 told).1 ∙ sym (y.allows.1 told).1))) x.allows.2 y.allows.2 x.draws y.draws
  fetch_agree a len (Bytes xs) (Trap q) x y = absurd (none-some q (sym (x.allows.1 told).0 ∙ y.allows.0 told))
  fetch_agree a len (Trap p) (Bytes ys) x y = absurd (none-some p (sym (y.allows.1 told).0 ∙ x.allows.0 told))
  fetch_agree a len (Trap p) (Trap q) x y =
      plain (Trap p) (Trap q) (ap (λ (n : ℕ). Trap n) (same_Some p q (sym (x.allows.0 told) ∙ y.allows.0 told))) x.allows.1 y.allows.1 x.draws y.draws
  fetch_agree a len (Bytes xs) q x y = absurd y.allows
  fetch_agree a len (Trap p) q x y = absurd y.allows
  fetch_agree a len r q x y = absurd x.allows

  fill_agree : (a : ℕ) (runs : List (ℕ × ℕ)) (r q : Reply) → Follows seed t s e (Fill a runs) r → Follows seed t s f (Fill a runs) q → Agree e f r q
  fill_agree a runs Filled Filled x y = plain Filled Filled refl x.allows.1 y.allows.1 x.draws y.draws
  fill_agree a runs Filled (Trap q) x y = absurd (none-some q (sym (x.allows.0 told) ∙ y.allows.0 told))
  fill_agree a runs (Trap p) Filled x y = absurd (none-some p (sym (y.allows.0 told) ∙ x.allows.0 told))
  fill_agree a runs (Trap p) (Trap q) x y =
      plain (Trap p) (Trap q) (ap (λ (n : ℕ). Trap n) (same_Some p q (sym (x.allows.0 told) ∙ y.allows.0 told))) x.allows.1 y.allows.1 x.draws y.draws
  fill_agree a runs Filled q x y = absurd y.allows
  fill_agree a runs (Trap p) q x y = absurd y.allows
  fill_agree a runs r q x y = absurd x.allows

  agree : (call : Call) (r q : Reply) → is_page_fault r ≡ is_page_fault q → Follows seed t s e call r → Follows seed t s f call q → Agree e f r q
  agree (Allot asked align) r q flag x y = allot_agree asked align r q flag x y
  agree (GiveBack a stated) r q flag x y = back_agree a stated r q flag x y
  agree (Measure a) r q flag x y = measure_agree a r q x y
  agree (Fetch a len) r q flag x y = fetch_agree a len r q x y
  agree (Fill a runs) r q flag x y = fill_agree a runs r q x y

follows : (seed : ℕ) (t : Terms) (s : State) (e : Entry) → IsNext seed t s e → Follows seed t s e e.call e.reply
follows seed t s e x = record { allows = x.allowed.allows; draws = x.drawn; runs = x.runs }

pub one_next : OneEntry
one_next seed t s e f told x y who call after flag =
    let there : Follows seed t s f e.call f.reply = subst (λ (k : Call). Follows seed t s f k f.reply) (sym call) (follows seed t s f y) in
    let both : Agree e f e.reply f.reply = agree seed t s told e f e.call e.reply f.reply flag (follows seed t s e x) there in
    let before : e.faults_before ≡ f.faults_before = x.allowed.follows ∙ sym y.allowed.follows in
    λ i. record {
      who = who i;
      call = call i;
      reply = both.replies i;
      choices = both.choices i;
      draws = both.draws i;
      faults_before = before i;
      faults_after = after i;
    }
