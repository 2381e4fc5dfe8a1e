use Rattle.std.proofs.Common.{rules, ap, sym, ◌∙◌, ◌∷◌, Some}
use Rattle.atomic_table.specs.Table.{rest}
use Rattle.hm_turn.proofs.lock.TurnLock.try_take.Goals as goal

pub exchange-requires : goal.exchange-requires
exchange-requires g c = let won = (c.ask.ensures.wins c.if-ask.true).holds in
    (search rules, (Some won.value, won.has ∙ ap (λ l. (0, Some won.value) ∷ rest l) (sym won.has)))
