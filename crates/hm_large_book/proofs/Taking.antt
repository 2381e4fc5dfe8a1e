-- What taking an entry leaves.
use Rattle.std.proofs.Common.{◌≡◌, ℕ, List, refl, sym, ◌∙◌, subst}
use Rattle.hm_model.specs.declared.entry.Entry.{Entry}
use Rattle.hm_model.specs.Machine.{state_after, state_push, Legal_push}
use Rattle.hm_sizes.specs.declared.config.Config.{Config}
use Rattle.hm_sizes.specs.Configs.{IsValid}
use Rattle.hm_large_rules.specs.State.{State, start}
use Rattle.hm_large_rules.specs.Steps.{step}
use Rattle.hm_large_rules.specs.Rules.{Allowed, state}
use Rattle.hm_large_rules.specs.Drawn.{IsDrawnEntry}
use Rattle.hm_large_rules.specs.Laws.{IsSound}
use Rattle.hm_large_rules.proofs.Legal.{state_same, sound}
use Rattle.hm_model.specs.declared.judgement.Judgement.{Judgement}
use Rattle.hm_model.specs.declared.judgement.Judgement.TheVariants.{Taken, NotLegal, NotDrawn}
use Rattle.hm_large_book.specs.declared.book.LargeBook.{LargeBook}
use Rattle.hm_large_book.specs.Book.{Shows, Stands}
use Rattle.hm_large_book.specs.Judged.{terms_of, changed_to, IsJudged, Judges, Holds}
use Rattle.hm_large_book.specs.Reached.{IsFormed, IsBookOf, IsReached, Says}
use Rattle.hm_large_book.proofs.Guarding.{guarded}

pub stands_of : (c : Config) (seed : ℕ) (es : List Entry) (k : LargeBook) → IsBookOf c seed es k → Stands (state (terms_of c) es) k
stands_of c seed es k h = record {
  valid = subst IsValid (sym h.config_is) h.valid;
  sound = subst (λ (d : Config). IsSound d (state (terms_of c) es)) (sym h.config_is) (sound (terms_of c) es h.legal);
  guarded = guarded (terms_of c) seed es h.drawn;
  shows = h.shows;
}

pub reached_holds : (k : LargeBook) → IsReached k → Holds k
reached_holds k h = (state (terms_of h.config) h.entries, stands_of h.config h.seed h.entries k h.is)

shows_step : (s : State) (e : Entry) (mid : LargeBook) → Shows (changed_to s e e.call e.reply) mid → Shows (step s e) (record mid { faults = e.faults_after })
shows_step s e mid h = record {
  blocks = record { live = h.blocks.live; quarantined = h.blocks.quarantined; recent = h.blocks.recent; space = h.blocks.space; out = h.blocks.out };
  quarantine = h.quarantine;
  indices = h.indices;
  words = h.words;
  faults = refl;
}

formed_of : (c : Config) (seed : ℕ) (es : List Entry) (k : LargeBook) (e : Entry) → IsBookOf c seed es k → Allowed (terms_of c) (state (terms_of c) es) e → IsFormed k.faults e
formed_of c seed es k e h a = record { draws = a.draws; asks = a.asks; follows = a.follows ∙ sym h.shows.faults; later = a.later }

-- an entry that is not formed
pub says_not_formed : (c : Config) (seed : ℕ) (es : List Entry) (k : LargeBook) (e : Entry) → (IsFormed k.faults e → ⊥) → IsBookOf c seed es k → Says c seed es e k NotLegal
says_not_formed c seed es k e not h = λ a. not (formed_of c seed es k e h a)

-- one that was judged
module _ (es : List Entry) (old mid : LargeBook) (e : Entry) (formed : IsFormed old.faults e) where
  at_own : (j : Judgement) → Judges old e e.call e.reply mid j → IsBookOf old.config old.seed es old → Says old.config old.seed es e (record mid { faults = e.faults_after }) j
  at_own j judges h = by j (judges.judged (state (terms_of old.config) es) (stands_of old.config old.seed es old h))
    where
      by : (j : Judgement) → IsJudged old (state (terms_of old.config) es) e e.call e.reply mid j → Says old.config old.seed es e (record mid { faults = e.faults_after }) j
      by Taken k =
          let allowed : Allowed (terms_of old.config) (state (terms_of old.config) es) e = record { draws = formed.draws; asks = formed.asks; follows = formed.follows ∙ h.shows.faults; later = formed.later; allows = k.0 } in
          let same : state_after step (IsDrawnEntry old.seed) start es ≡ state (terms_of old.config) es = state_same (IsDrawnEntry old.seed) (Allowed (terms_of old.config)) start es in (
            allowed,
            k.1,
            record {
              config_is = judges.config_same;
              seed_is = judges.seed_same;
              valid = h.valid;
              legal = Legal_push step (Allowed (terms_of old.config)) start es e h.legal allowed;
              drawn = Legal_push step (IsDrawnEntry old.seed) start es e h.drawn (subst (λ (z : State). IsDrawnEntry old.seed z e) (sym same) k.1);
              shows = subst (λ (z : State). Shows z (record mid { faults = e.faults_after })) (sym (state_push step (Allowed (terms_of old.config)) start es e)) (shows_step (state (terms_of old.config) es) e mid k.2);
            },
          )
      by NotLegal k = λ a. k a.allows
      by NotDrawn k = (record { draws = formed.draws; asks = formed.asks; follows = formed.follows ∙ h.shows.faults; later = formed.later; allows = k.0 }, k.1)

  pub says_judged : (c : Config) (seed : ℕ) (j : Judgement) → Judges old e e.call e.reply mid j → IsBookOf c seed es old → Says c seed es e (record mid { faults = e.faults_after }) j
  says_judged c seed j judges h =
      subst (λ (n : ℕ). IsBookOf c n es old → Says c n es e (record mid { faults = e.faults_after }) j) h.seed_is
      (subst (λ (d : Config). IsBookOf d old.seed es old → Says d old.seed es e (record mid { faults = e.faults_after }) j) h.config_is (at_own j judges))
      h
