-- The ends of a run in memory.
--     fresh_ends script files      ends that were just made: empty areas, a script and files; no call is listed to fail
--     ends_of t      those of a run that has ended
use Rattle.std.specs.Prelude.{ℕ, true, List, [], String, Vec}
use Rattle.std.specs.declared.alloc.Global.{Global}
use Rattle.ov_memhost.specs.Host.{new_state, state_of}
use Rattle.ov_memhost.specs.Named.{files_of}
use Rattle.ov_memhost.specs.Source.{script_of}
use Rattle.ov_memhost.specs.Stage.{new_staged, staged_of}
use Rattle.ov_top.specs.Ending.{Ends}
use Rattle.test_program.specs.declared.Trial.{Trial}

abbrev pub fresh_ends : List ℕ → List (String Global × Vec ℕ Global) → Ends
fresh_ends script files =
    record {
      host = new_state (record { pages = []; journal = [] }) [];
      script = record { tells = true; left = script; faults = 0 };
      stage = new_staged (files_of files);
    }

abbrev pub ends_of : Trial → Ends
ends_of t = record { host = state_of t.host; script = script_of t.source; stage = staged_of t.stage }
