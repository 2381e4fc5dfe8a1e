use Rattle.std.proofs.Common.{ℕ, ◌+◌, ◌∷◌, ◌++◌, List, take, drop, Option, Some, ap, ◌∙◌, arith}
use Rattle.hm_frames.proofs.Written.{fill_more}
use Rattle.hm_frames.proofs.block.Contents.fill.Goals as goal

pub loop-i-preserved : goal.loop-i-preserved
loop-i-preserved c =
    let from = c.args.from in let i = c.loop-i.i in let old = c.args.self.now.raw_cells in (
      c.write.ensures.0 ∙ c.loop-i.invariant.0,
      c.write.ensures.1 ∙ ap (λ (l : List (Option ℕ)). take (from + i) l ++ (Some c.args.byte ∷ drop (from + i + 1) l)) c.loop-i.invariant.1
          ∙ fill_more c.args.byte old from i (omega (arith, c.requires.1, c.loop-i-test.true)),
    )
