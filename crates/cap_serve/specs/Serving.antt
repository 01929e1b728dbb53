-- What serving says of a host over a journal.
use Rattle.std.specs.Prelude.{ℕ, Bool, List, Option, Result, IsTrue}
use Rattle.cap_journal.specs.declared.journal.Journal.{Ghosts}
use Rattle.cap_entries.specs.declared.host.HostEntry.{HostEntry}
use Rattle.cap_link.specs.Lines.{Lines}
use Rattle.cap_answering.specs.Steps.{EndState, Holds}
use Rattle.cap_host.specs.declared.host.Host.{Host}
use Rattle.cap_host.specs.Host.{journal_of, entries_of, has_failed, tells}
use Rattle.cap_host.specs.Answering.{HostAdds, HostReplies, HostHas}
use Rattle.cap_drive.specs.declared.serve.ServeEnd.{ServeEnd}
use Rattle.cap_drive.specs.Connections.{Connection}
use Rattle.cap_drive.specs.Driver.{Serves, ComesBack, images_of, faults_of}
use Rattle.cap_serve.specs.Standing.{AllStand}

module _ {J : Type 0} {g : Ghosts J HostEntry} where
  -- the images that a crash may leave of what comes back
  abbrev pub images_left : Result (Host J g) J → List ℕ → Type 0
  images_left back = images_of (λ (host : Host J g) image. g.may_leave (journal_of host) image) g.may_leave back

  -- the faults of its disk
  abbrev pub faults_left : Result (Host J g) J → ℕ
  faults_left back = faults_of (λ (host : Host J g). g.faults (journal_of host)) g.faults back

  -- One run of the host over the connections that it served: of each the line was written, and what the host stands at is what comes back, in every
  -- image that a crash may leave.
  pub record HostServes (told : Option ℕ) (link_tells : Bool) (connections : ℕ) (host : Host J g) (end : ServeEnd) (back : Result (Host J g) J)
      (before after : Lines) (old new : Option (List ℕ)) (line_before line_after : ℕ) : Type 0 where
    pub served : List Connection
    pub stands : EndState HostEntry
    pub serves : Serves (tells host) (g.is_readable (journal_of host)) HostAdds HostReplies told link_tells end 1 connections (entries_of host) served stands before after old new line_before line_after (g.faults (journal_of host)) (faults_left back)
    pub comes_back : ComesBack entries_of has_failed stands back
    pub images : IsTrue (tells host) → Holds HostHas (images_left back) stands
    -- and each has the items that a reply which was put acknowledges
    pub acknowledged : IsTrue (tells host) → IsTrue (g.is_readable (journal_of host)) → (image : List ℕ) → images_left back image
        → (list : List HostEntry) × HostHas image list × AllStand list served
