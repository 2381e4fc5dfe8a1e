-- An entry that a book has yet to judge, by its call.
use Rattle.std.specs.Prelude.{◌≡◌}
use Rattle.hm_model.specs.declared.entry.Call.{Call}
use Rattle.hm_model.specs.declared.entry.Entry.{Entry}
use Rattle.hm_class_book.specs.Follows.{Follows}
use Rattle.hm_class_book.specs.Reached.{Said, IsReached}

-- the book's entries are legal and drawn, and the entry may follow them, whatever its reply
pub record IsAsked (b : Said) (e : Entry) (call : Call) : Type 0 where
  pub reached : IsReached b
  pub follows : Follows b.terms.shape b.cells.state e
  pub call_is : e.call ≡ call
