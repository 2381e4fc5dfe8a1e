use Rattle.std.proofs.Common.{◌≡◌, ℕ, ◌≤◌, nat_lt, false, ◌∙◌, sym, arith}
use Rattle.std.proofs.lemmas.Bool.Decides.{nat_tests}
use Rattle.hm_slab_lists.proofs.Tables.{open_at_index, past_shut}
use Rattle.hm_slab_lists.proofs.slab_lists.SlabLists.is_open.Goals as goal

no_less : (a b : ℕ) → b ≤ a → nat_lt a b ≡ false
no_less a b e = grind (arith, nat_tests)

pub returns-then-index-len : goal.returns-then-index-len
returns-then-index-len c =
    c.is_open.ensures
    ∙ open_at_index c.self.inside.chains c.self.inside.parking.items c.self.inside.limit c.self.inside.guard_interval c.self.inside.slots c.args.n c.index_in-index.result c.args.self.now
    c.self.invariant.guards_some c.self.invariant.guards_most (c.index_in-index.ensures.found (omega (arith, c.if-index-len.true, c.len.ensures))) c.self.view_is

pub returns-else-index-len : goal.returns-else-index-len
returns-else-index-len c =
    no_less c.index_in-index.result c.len.result c.if-index-len.false
    ∙ sym (past_shut c.self.inside.chains c.self.inside.parking.items c.self.inside.limit c.self.inside.guard_interval c.self.inside.slots c.args.n c.index_in-index.result c.args.self.now
    c.self.invariant c.self.view_is c.index_in-index.ensures.opened (omega (arith, c.if-index-len.false, c.len.ensures)))
