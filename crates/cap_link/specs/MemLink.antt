-- What a link in memory shows to contracts.
use Rattle.std.specs.Prelude.{ℕ, List}
use Rattle.cap_link.specs.Lines.{Lines}
use Rattle.cap_link.specs.Naming.{named_in, call_in}
use Rattle.cap_link.specs.declared.memory.MemLink.{MemLink}

-- its connections and their bytes
abbrev pub lines_of : MemLink → Lines
lines_of link = link.lines

-- the calls of `next`, `take` and `put` that will fail
abbrev pub named_of : MemLink → List ℕ
named_of link = named_in link.naming

-- the number of the next of these calls
abbrev pub call_of : MemLink → ℕ
call_of link = call_in link.naming

-- how often `next` has failed
abbrev pub port_faults_of : MemLink → ℕ
port_faults_of link = link.port_faults

-- how often `take` or `put` has failed
abbrev pub line_faults_of : MemLink → ℕ
line_faults_of link = link.line_faults
