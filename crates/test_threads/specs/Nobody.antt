-- The name of no turnstile, for `Brand`, whose uses pick the name that they need.
use Rattle.std.specs.Prelude.{[]}
use Rattle.turnstile.specs.Passes.{Name}
use Rattle.test_threads.specs.declared.count.Count.{Count}

abbrev pub nobody : Name Count
nobody = record {
  table = record { words = 0; slots = 0; views_name = 0; atom = 0; block = 0; offset = 0; slot_names = [] };
  first = record { turns = 0 };
}
