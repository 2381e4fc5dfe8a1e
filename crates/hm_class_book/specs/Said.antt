-- A class book as what it says.
use Rattle.hm_class_book.specs.Book.{state_in, terms}
use Rattle.hm_class_book.specs.Reached.{Said}
use Rattle.hm_class_book.specs.declared.class_book.ClassBook.{ClassBook}

abbrev pub said : ClassBook → Said
said b = record {
  seed = b.seed;
  arena = b.arena;
  terms = terms b.region;
  cells = record {
    state = state_in b.book;
    stream = b.stream;
    partial = b.lists.partial.items;
    empty = b.lists.empty.items;
    quarantine = b.quarantine;
    parking = b.parking.items;
  };
}
