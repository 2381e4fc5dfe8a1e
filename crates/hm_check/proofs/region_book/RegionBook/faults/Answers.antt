use Rattle.std.proofs.Common.{◌∙◌, subst}
use Rattle.hm_check.specs.declared.region_book.RegionBook.{RegionBook}
use Rattle.hm_check.specs.RegionBooks.{IsBook}
use Rattle.hm_check.proofs.Books.{faults_class}
use Rattle.hm_check.proofs.region_book.RegionBook.faults.Goals as goal

pub returns-in-Class : goal.returns-in-Class
returns-in-Class c = λ config seed region past h.
    c.faults.ensures
    ∙ faults_class config seed region past c.in-Class.book
    (subst (λ (b : RegionBook). IsBook config seed region past b) c.in-Class.is h)
