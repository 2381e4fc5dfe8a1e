use Rattle.hm_class_book.proofs.Chosen.{same_choices}
use Rattle.hm_class_book.proofs.choices.are.Goals as goal

pub returns : goal.returns
returns c =
    same_choices c.args.choices.now c.args.others.now c.is_option-canary.result c.is_option-opened.result c.is_option-released.result c.is_option-retired.result c.is_option-purged.result c.is_option-unparked.result c.is_option-guard.result
    c.is_option-canary.ensures c.is_option-opened.ensures c.is_option-released.ensures c.is_option-retired.ensures c.is_option-purged.ensures c.is_option-unparked.ensures c.is_option-guard.ensures
