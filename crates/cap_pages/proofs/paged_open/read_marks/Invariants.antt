use Rattle.std.proofs.Common.{◌≡◌, ◌-◌, ◌<◌, ◌==◌, length, take, drop, map, slice_index, IsTrue}
use Rattle.cap_pages.specs.Pages.{ArePages}
use Rattle.cap_pages.specs.Reading.{OnlyReads}
use Rattle.cap_pages.specs.Cache.{pages_of, most_of}
use Rattle.cap_journal.specs.File.{journal_of, behind}
use Rattle.cap_journal.specs.Reading.{groups_from}
use Rattle.cap_pages.specs.Paged.{gate_in, listed}
use Rattle.cap_pages.proofs.paged_open.read_marks.Given as goal

abbrev pub invariant-groups : goal.invariant-groups
invariant-groups g l = record {
  within : l.place < l.len;
  more : IsTrue (g.D.Disk.tells l.fn.disk) → l.more ≡ (slice_index (g.D.Disk.contents l.fn.disk).shown l.place == 165);
  all_read : IsTrue (g.D.Disk.tells l.fn.disk) → length (listed g.E.Record.reading (take l.place (g.D.Disk.contents l.fn.disk).shown) l.marks.items) ≡ length l.marks.items;
  so_far : IsTrue (g.D.Disk.tells l.fn.disk) → journal_of g.E.Record.reading (g.D.Disk.contents l.fn.disk).shown ≡ behind (listed g.E.Record.reading (take l.place (g.D.Disk.contents l.fn.disk).shown) l.marks.items) (map gate_in l.marks.items) (groups_from g.E.Record.reading l.place (drop l.place (g.D.Disk.contents l.fn.disk).shown));
  pages : IsTrue (g.D.Disk.tells l.fn.disk) → ArePages (pages_of l.pages) (take l.len (g.D.Disk.contents l.fn.disk).shown);
  most : most_of l.pages ≡ most_of l.fn.pages;
  reads : OnlyReads g.D.Disk.tells g.D.Disk.contents g.D.Disk.moment g.D.Disk.left_since g.D.Disk.room g.D.Disk.faults g.D.Disk.counts l.fn.disk l.disk;
}

abbrev pub decreases-groups : goal.decreases-groups
decreases-groups g l = l.len - l.place
