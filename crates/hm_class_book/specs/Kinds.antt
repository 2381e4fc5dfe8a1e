-- The kinds of slabs, as the rules have them.
use Rattle.hm_class_rules.specs.Kinds as rules
use Rattle.hm_class_book.specs.declared.kinds.Kind.{Kind}
use Rattle.hm_class_book.specs.declared.kinds.Kind.TheVariants.{Partial, Empty, Neither}

abbrev pub kind_in : Kind → rules.Kind
kind_in Partial = rules.Partial
kind_in Empty = rules.Empty
kind_in Neither = rules.Neither
