use Rattle.std.proofs.Common.{◌≡◌, rules, ap, ◌∙◌}
use Rattle.std.proofs.lemmas.Fn.{filter_same}
use Rattle.hm_model.specs.Maps.{removed}
use Rattle.hm_large_book.specs.Book.{block_of, blocks_in}
use Rattle.hm_large_book.proofs.Finding.{removed_pairs}
use Rattle.hm_large_book.proofs.changes.remove_live.Goals as goal

pub returns : goal.returns
returns c =
    let left : c.retain.new.self.items ≡ removed c.args.addr c.args.live.now.items = filter_same _ _ _ (λ x b f' k. search rules) _ _ c.retain.ensures.filtered in
    ap blocks_in left ∙ removed_pairs block_of c.args.addr c.args.live.now.items
