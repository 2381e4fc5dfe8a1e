use Rattle.std.proofs.Common.{◌+◌, ℕ, Option, drop, sym, ◌∙◌, ap}
use Rattle.std.specs.Prelude.{unwrap_or}
use Rattle.std.proofs.lemmas.List.{get_or-take, get_or-drop}
use Rattle.std.proofs.lemmas.Option.{unwrap_or-slice_get}
use Rattle.hm_class_book.proofs.bytes.byte.Goals as goal

pub returns : goal.returns
returns c =
    let b = c.args.bytes.now in
    c.unwrap_or.ensures ∙ ap (λ (o : Option ℕ). unwrap_or o 0) c.get.ensures ∙ unwrap_or-slice_get b (c.args.offset + c.args.index) 0
    ∙ sym (get_or-take 8 (drop c.args.offset b) c.args.index 0 c.requires.index ∙ get_or-drop c.args.offset b c.args.index 0)
