-- Calls of a host that are made one after another.
use Rattle.std.proofs.Common.{◌≡◌, List, [], Option, Some, None, ap}
use Rattle.std.specs.Prelude.{Result, Ok, Err, IsErrAnd}
use Rattle.cap_journal.specs.declared.journal.Journal.{Ghosts}
use Rattle.cap_entries.specs.declared.host.HostEntry.{HostEntry}
use Rattle.cap_answering.specs.declared.fault.HostFault.{HostFault}
use Rattle.cap_answering.specs.declared.fault.HostFault.TheVariants.{Memory}
use Rattle.cap_ledger.specs.Ledger.{OnlyReads}
use Rattle.cap_ledger.specs.Ledger as ledger
use Rattle.cap_ledger.specs.Laws.{reads_then_reads, reads_then_adds, reads_give, reads_fail, reads_lack, fails_adds, adds_none}
use Rattle.cap_host.specs.declared.host.Host.{Host}
use Rattle.cap_host.specs.Host.{fault_of, ending, Adds, Reads}

-- a result that lacks memory
pub lacks_fault : {T : Type 0} (r : Result T HostFault) → IsErrAnd r (λ e. e ≡ Memory) → fault_of r ≡ Some Memory
lacks_fault (Ok v) h = absurd h
lacks_fault (Err e) h = ap (λ (f : HostFault). Some f) h

module _ {J : Type 0} {g : Ghosts J HostEntry} where
  -- two calls that add nothing
  pub reads_reads : (a b c : Host J g) (fault : Option HostFault) → Reads a b None → Reads b c fault → Reads a c fault
  reads_reads a b c fault first then = reads_then_reads a.ledger b.ledger c.ledger {V = Unit {0}} {T = Unit {0}} tt (ending fault) first then

  -- want of memory after a call that only reads
  pub lacks_behind : (a b : Host J g) → Reads a b None → Reads a b (Some Memory)
  lacks_behind a b reads = reads_lack a.ledger b.ledger {V = Unit {0}} {T = Unit {0}} tt reads

  -- whatever value is given
  pub reads_any : (a b : Host J g) {T : Type 0} (result : Result T HostFault) → OnlyReads a.ledger b.ledger result → Reads a b (fault_of result)
  reads_any a b {T = T} (Ok v) reads = reads_give a.ledger b.ledger {V = T} {T = Unit {0}} v tt reads
  reads_any a b {T = T} (Err e) reads = reads_fail a.ledger b.ledger {V = T} {T = Unit {0}} e reads

  -- a call that adds, after one that only reads
  pub reads_adds : (a b c : Host J g) (added : List HostEntry) (fault : Option HostFault) → Reads a b None → Adds b c added fault → Adds a c added fault
  reads_adds a b c added fault first then = reads_then_adds a.ledger b.ledger c.ledger {V = Unit {0}} {T = Unit {0}} tt added (ending fault) first then

  -- a call that only reads adds nothing
  pub reads_none : (a b : Host J g) (fault : Option HostFault) → Reads a b fault → Adds a b [] fault
  reads_none a b fault reads = adds_none a.ledger b.ledger (ending fault) reads

  -- one that fails in reading adds nothing, whatever was to be added
  pub fails_reading : (a b : Host J g) (added : List HostEntry) (e : HostFault) → Reads a b (Some e) → Adds a b added (Some e)
  fails_reading a b added e reads = fails_adds a.ledger b.ledger added e reads
