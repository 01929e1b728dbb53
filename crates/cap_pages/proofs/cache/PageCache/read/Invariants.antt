use Rattle.std.proofs.Common.{◌≡◌, ◌-◌, ◌≤◌, length, take, drop, IsTrue}
use Rattle.cap_pages.specs.Pages.{ArePages}
use Rattle.cap_pages.specs.Reading.{OnlyReads}
use Rattle.cap_pages.specs.Cache.{pages_of, most_of}
use Rattle.cap_pages.proofs.cache.PageCache.read.Given as goal

abbrev pub invariant-pieces : goal.invariant-pieces
invariant-pieces g l = record {
  within : l.done ≤ length l.buf;
  len : length l.buf ≡ length l.fn.buf;
  bytes : IsTrue (g.D.Disk.tells l.fn.disk) → take l.done l.buf ≡ take l.done (drop l.place (g.D.Disk.contents l.fn.disk).shown);
  pages : IsTrue (g.D.Disk.tells l.fn.disk) → ArePages (pages_of l.self) (take l.stable (g.D.Disk.contents l.fn.disk).shown);
  most : most_of l.self ≡ most_of l.fn.self;
  reads : OnlyReads g.D.Disk.tells g.D.Disk.contents g.D.Disk.moment g.D.Disk.left_since g.D.Disk.room g.D.Disk.faults g.D.Disk.counts l.fn.disk l.disk;
}

abbrev pub decreases-pieces : goal.decreases-pieces
decreases-pieces g l = length l.buf - l.done
