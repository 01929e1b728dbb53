-- What holds of a terminal's parts at every moment, and of the images of its disk.
use Rattle.std.specs.Prelude.{◌≡◌, ◌≤◌, ℕ, Bool, true, false, List, IsTrue}
use Rattle.cap_base.specs.declared.item.Item.{Item}
use Rattle.cap_journal.specs.declared.journal.Journal.{Ghosts}
use Rattle.cap_journal.specs.File.{Reading, Has}
use Rattle.cap_entries.specs.declared.terminal.TermEntry.{TermEntry}
use Rattle.cap_entries.specs.Items.{items}
use Rattle.cap_entries.specs.Allowed.{is_legal}
use Rattle.cap_entries.specs.Fronts.{IsPrefixOf}
use Rattle.cap_terminal.specs.declared.index.Index.{Index}
use Rattle.cap_terminal.specs.Index.{index_of}
use Rattle.cap_terminal.specs.View.{index_view}

pub record Stands {J : Type 0} (g : Ghosts J TermEntry) (journal : J) (index : Index) (failed : Bool) : Type 0 where
  pub readable : IsTrue (g.is_readable journal)
  pub indexed : index_view index ≡ index_of (g.entries journal)
  pub legal : is_legal (g.entries journal) ≡ true
  pub failed_is : failed ≡ g.has_failed journal
  pub reserved : failed ≡ false → index.owed ≤ (g.spare journal).small

-- the image has these items, and perhaps more behind them
pub record HasItems (reading : Reading TermEntry) (list : List Item) (image : List ℕ) : Type 0 where
  pub entries : List TermEntry
  pub has : Has reading image entries
  pub stand : IsPrefixOf list (items entries)
