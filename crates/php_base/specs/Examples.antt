use Rattle.std.specs.Prelude.{◌≡◌, List, [], ◌∷◌, Some, None, true, false, refl, codes}
use Rattle.php_base.specs.Counts.{counted_up, greatest_count}
use Rattle.php_base.specs.Files.{File, file_of}
use Rattle.php_base.specs.MemSink.{SinkState, write_fails, taken}
use Rattle.php_base.specs.Written.{GrewBy}

-- a count goes up, and stands still at its end
count_rises : counted_up 41 ≡ 42
count_rises = refl

count_stands : counted_up greatest_count ≡ greatest_count
count_stands = refl

-- the first file of a name is found, and a name that only begins alike isn't
two_files : List File
two_files = record { name = codes "a.php"; bytes = 1 ∷ [] } ∷ record { name = codes "a"; bytes = 2 ∷ [] } ∷ []

finds_second : file_of two_files (codes "a") ≡ Some (2 ∷ [])
unfolding two_files
finds_second = refl

finds_none : file_of two_files (codes "b") ≡ None
unfolding two_files
finds_none = refl

-- what was told grows by the bytes, and what isn't told stays untold
told_grows : GrewBy (Some (1 ∷ [])) (Some (1 ∷ 2 ∷ [])) (2 ∷ [])
told_grows = refl

untold_stays : GrewBy None None (2 ∷ [])
untold_stays = refl

-- a sink that takes three bytes at a call, has room for two more, and fails at its second call
small_sink : SinkState
small_sink = record { written = 7 ∷ []; step = 3; room = 2; failing = 2 ∷ []; calls = 0; faults = 0 }

takes_room : taken small_sink (1 ∷ 2 ∷ 3 ∷ 4 ∷ []) ≡ 2
unfolding small_sink
takes_room = refl

first_call_works : write_fails small_sink ≡ false
unfolding small_sink
first_call_works = refl

second_call_fails : write_fails (record small_sink { calls = 1 }) ≡ true
unfolding small_sink
second_call_fails = refl
