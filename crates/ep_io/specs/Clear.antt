-- What a library and a sink mean that never fail.
use Rattle.std.specs.Prelude.{ℕ, None}
use Rattle.ep_io.specs.Library.{LibraryState}
use Rattle.ep_io.specs.MemoryLibrary.{memory_library}
use Rattle.ep_io.specs.Sink.{SinkState}
use Rattle.ep_io.specs.declared.clear_library.ClearLibrary.{ClearLibrary}
use Rattle.ep_io.specs.declared.clear_sink.ClearSink.{ClearSink}

abbrev pub clear_library : ClearLibrary → LibraryState
clear_library l = record (memory_library l.library) { faults = 0 }

abbrev pub clear_sink : ClearSink → SinkState
clear_sink s = record { written = None; faults = 0; puts = s.puts }

-- how many bytes were put
abbrev pub byte_count : ClearSink → ℕ
byte_count s = s.bytes
