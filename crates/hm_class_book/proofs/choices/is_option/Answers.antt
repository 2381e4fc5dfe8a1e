use Rattle.std.proofs.Common.{◌≡◌, sym, ◌∙◌}
use Rattle.hm_class_book.proofs.choices.is_option.Goals as goal

pub returns-in-Some : goal.returns-in-Some
returns-in-Some c = (λ e. c.in-Some.is ∙ sym (c.is_same.ensures.0 e), λ e. c.is_same.ensures.1 (sym e ∙ c.in-Some.is))
