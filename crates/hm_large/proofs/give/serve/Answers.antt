use Rattle.std.proofs.Common.{rules, arith, ℕ, suc, Err, inl, inr, ◌∙◌, ap, subst, refl}
use Rattle.std.specs.FinMap as map
use Rattle.hm_base.specs.Lists.{zeros}
use Rattle.hm_model.specs.declared.entry.Reply.TheVariants as reply
use Rattle.hm_outside.specs.declared.pages.PageRefusal.{PageRefusal}
use Rattle.hm_large.specs.declared.store.Store.{Store}
use Rattle.hm_large_rules.specs.Rules.{IsCandidate, IsLeastCandidate}
use Rattle.hm_large.specs.Gives.{SameStore}
use Rattle.hm_large_rules.proofs.Legal.{page_aligned}
use Rattle.hm_large.proofs.Tables.{meets_none}
use Rattle.hm_large.proofs.Shown.{shows_same}
use Rattle.hm_large.proofs.Allotted.{word_back, same_none, fresh_key, candidate_below, candidate_free, shows_drawn, shows_table, found_least, allots_from, gives_from, shows_new}
use Rattle.hm_large.proofs.give.serve.Goals as goal

pub open-requires-clause-block : goal.open-requires-clause-block
open-requires-clause-block g c κs within =
    let t = c.requires.stands in
    let shows = shows_drawn t.config t.seed t.s c.args.store.now c.reserve.new.store c.draw_guard-word.new.store c.draw_guard-word.ensures.store c.reserve.ensures.same c.reserve.ensures.words t.shows in
    let least = found_least t.config t.seed t.s c.args.store.now c.reserve.new.store c.draw_guard-word.new.store c.args.align c.size_of_block-size.result c.draw_guard-word.result.1 c.in-Some.addr c.draw_guard-word.ensures.store c.reserve.ensures.same c.reserve.ensures.words c.in-Some.ensures.fits t.shows in
    record {
      fresh = shows.blocks c.in-Some.addr ∙ fresh_key t.config t.s c.args.align c.size_of_block-size.result c.draw_guard-word.result.1 c.in-Some.addr c.size_of_block-size.ensures.fits.some t.sound least.fits;
      room = search rules;
      live = refl;
    }

pub open-requires-clause-pages : goal.open-requires-clause-pages
open-requires-clause-pages g c κs within =
    let t = c.requires.stands in
    let fits = c.size_of_block-size.ensures.fits in
    let least = found_least t.config t.seed t.s c.args.store.now c.reserve.new.store c.draw_guard-word.new.store c.args.align c.size_of_block-size.result c.draw_guard-word.result.1 c.in-Some.addr c.draw_guard-word.ensures.store c.reserve.ensures.same c.reserve.ensures.words c.in-Some.ensures.fits t.shows in
    record {
      aligned = page_aligned c.args.align c.in-Some.addr c.requires.asks.1 least.fits.aligned;
      whole = fits.pages;
      some = fits.some;
      most = fits.most;
      below = candidate_below t.config t.s c.args.align c.size_of_block-size.result c.draw_guard-word.result.1 c.in-Some.addr t.valid least.fits;
      apart = λ told. meets_none t.config t.s c.args.align c.size_of_block-size.result c.draw_guard-word.result.1 c.in-Some.addr (g.P.Pages.runs c.args.pages.now) fits.some t.sound least.fits (t.holds told);
    }

pub take_range-requires-clause-free : goal.take_range-requires-clause-free
take_range-requires-clause-free g c =
    let t = c.requires.stands in
    let fits = c.size_of_block-size.ensures.fits in
    let shows = shows_drawn t.config t.seed t.s c.args.store.now c.reserve.new.store c.draw_guard-word.new.store c.draw_guard-word.ensures.store c.reserve.ensures.same c.reserve.ensures.words t.shows in
    let found = c.in-Some.ensures.fits t.config t.seed (record t.s { words = suc t.s.words }) shows in
    record {
      some = fits.some;
      most = fits.most;
      narrow = omega (arith, c.draw_guard-word.ensures.most);
      front = c.in-Some.ensures.front;
      free = candidate_free t.config t.seed (record t.s { words = suc t.s.words }) c.draw_guard-word.new.store c.args.align c.size_of_block-size.result c.draw_guard-word.result.1 c.in-Some.addr shows found.fits;
    }

pub returns-in_default-clause-allots : goal.returns-in_default-clause-allots
returns-in_default-clause-allots g c =
    λ config n s shows. let size = c.size_of_block-size.result in
    let guard = c.draw_guard-word.result.1 in
    let drawn = shows_drawn config n s c.args.store.now c.reserve.new.store c.draw_guard-word.new.store c.draw_guard-word.ensures.store c.reserve.ensures.same c.reserve.ensures.words shows in
    let none : (a : ℕ) → IsCandidate config s c.args.align size guard a → ⊥ = same_none config s (suc s.words) c.args.align size guard (c.in_default.ensures.fits config n (record s { words = suc s.words }) drawn) in
    allots_from g.P.Pages config n s c.args.asked c.args.align c.args.store.now c.reserve.new.store c.args.pages.now c.args.pages.now size c.draw_guard-word.result.0 guard reply.NoSpace c.draw_guard-word.new.store shows c.size_of_block-size.ensures.value c.reserve.ensures.words c.draw_guard-word.ensures.word c.draw_guard-word.ensures.guard
    (inr (inl (refl, (subst (λ (z : ℕ). (a : ℕ) → IsCandidate config s c.args.align z guard a → ⊥) c.size_of_block-size.ensures.value none, drawn, (λ told. refl), refl))))

pub returns-in-Ok-clause-allots : goal.returns-in-Ok-clause-allots
returns-in-Ok-clause-allots g c =
    λ config n s shows. let size = c.size_of_block-size.result in
    let guard = c.draw_guard-word.result.1 in
    let drawn = shows_drawn config n s c.args.store.now c.reserve.new.store c.draw_guard-word.new.store c.draw_guard-word.ensures.store c.reserve.ensures.same c.reserve.ensures.words shows in
    let least = found_least config n s c.args.store.now c.reserve.new.store c.draw_guard-word.new.store c.args.align size guard c.in-Some.addr c.draw_guard-word.ensures.store c.reserve.ensures.same c.reserve.ensures.words c.in-Some.ensures.fits shows in
    allots_from g.P.Pages config n s c.args.asked c.args.align c.args.store.now c.reserve.new.store c.args.pages.now c.open.new.pages size c.draw_guard-word.result.0 guard (reply.Given c.in-Some.addr size) c.take_range.new.store shows c.size_of_block-size.ensures.value c.reserve.ensures.words c.draw_guard-word.ensures.word c.draw_guard-word.ensures.guard (inl (
      c.in-Some.addr,
      ap (reply.Given c.in-Some.addr) c.size_of_block-size.ensures.value,
      (
        subst (λ (z : ℕ). IsLeastCandidate config s c.args.align z guard c.in-Some.addr) c.size_of_block-size.ensures.value least,
        shows_new config n s c.draw_guard-word.new.store c.take_range.new.store c.args.align c.args.asked size guard c.in-Some.addr (suc s.words) c.size_of_block-size.ensures.value
            (subst (λ (z : ℕ). IsCandidate config s c.args.align z guard c.in-Some.addr) c.size_of_block-size.ensures.value least.fits) drawn
            (gives_from c.draw_guard-word.new.store c.take_range.new.store c.open.new.blocks c.in-Some.addr c.args.asked size guard c.in-Ok.ensures.ok.put (ap (λ (k : Store). k.blocks) c.take_range.ensures.others) c.take_range.ensures.taken c.take_range.ensures.out (ap (λ (k : Store). k.quarantine) c.take_range.ensures.others) c.take_range.ensures.owed_more)
            (ap (λ (k : Store). k.words) c.take_range.ensures.others),
        (λ told. c.in-Ok.ensures.ok.made told ∙ ap (λ (z : ℕ). map.insert (g.P.Pages.runs c.args.pages.now) c.in-Some.addr (zeros z)) c.size_of_block-size.ensures.value),
        c.in-Ok.ensures.cause.later,
      ),
    ))

pub returns-in-Err-Failed-clause-allots : goal.returns-in-Err-Failed-clause-allots
returns-in-Err-Failed-clause-allots g c =
    λ config n s shows. let size = c.size_of_block-size.result in
    let guard = c.draw_guard-word.result.1 in
    let d = c.draw_guard-word.new.store in
    let drawn = shows_drawn config n s c.args.store.now c.reserve.new.store c.draw_guard-word.new.store c.draw_guard-word.ensures.store c.reserve.ensures.same c.reserve.ensures.words shows in
    let least = found_least config n s c.args.store.now c.reserve.new.store c.draw_guard-word.new.store c.args.align size guard c.in-Some.addr c.draw_guard-word.ensures.store c.reserve.ensures.same c.reserve.ensures.words c.in-Some.ensures.fits shows in
    let new : Store = record d { blocks = c.open.new.blocks } in
    let same : SameStore d new = record { blocks = c.in-Err-Failed.ensures.err.stays; ranges = refl; out = refl; quarantine = refl; owed_same = refl } in
    allots_from g.P.Pages config n s c.args.asked c.args.align c.args.store.now c.reserve.new.store c.args.pages.now c.open.new.pages size c.draw_guard-word.result.0 guard reply.PagesFailed new shows c.size_of_block-size.ensures.value c.reserve.ensures.words c.draw_guard-word.ensures.word c.draw_guard-word.ensures.guard
    (inr (inr (refl, (subst (λ (z : ℕ). (a : ℕ) × IsCandidate config s c.args.align z guard a) c.size_of_block-size.ensures.value (c.in-Some.addr, least.fits), shows_table config n (record s { words = suc s.words }) d new drawn same refl, c.in-Err-Failed.ensures.err.unchanged, c.in-Err-Failed.ensures.cause.fault (ap (λ (r : PageRefusal). Err r) c.in-Err-Failed.field-0-is)))))

pub returns-in-Err-NoMemory-clause-declines : goal.returns-in-Err-NoMemory-clause-declines
returns-in-Err-NoMemory-clause-declines g c =
    λ config n s shows. let old = c.args.store.now in
    let d = c.draw_guard-word.new.store in
    let e = c.draw_guard-word.ensures.store in
    let new : Store = record d { blocks = c.open.new.blocks; words = c.back.new.self } in
    let same : SameStore old new = record {
      blocks = λ a. c.in-Err-NoMemory.ensures.err.stays a ∙ ap (λ (k : Store). map.get k.blocks.blocks a) e ∙ c.reserve.ensures.same.blocks a;
      ranges = ap (λ (k : Store). k.space.ranges) e ∙ c.reserve.ensures.same.ranges;
      out = ap (λ (k : Store). k.space.out) e ∙ c.reserve.ensures.same.out;
      quarantine = ap (λ (k : Store). k.quarantine) e ∙ c.reserve.ensures.same.quarantine;
      owed_same = ap (λ (k : Store). k.owed) e ∙ c.reserve.ensures.same.owed_same;
    } in
    record {
      shows = shows_same config n s old new s.words shows same (word_back n s.words c.reserve.new.store.words d.words c.back.new.self (c.reserve.ensures.words ∙ shows.words) (ap (λ (k : Store). k.words) e) c.back.ensures);
      runs_are = c.in-Err-NoMemory.ensures.err.unchanged;
      count = c.in-Err-NoMemory.ensures.cause.no_memory (ap (λ (r : PageRefusal). Err r) c.in-Err-NoMemory.field-0-is);
    }
