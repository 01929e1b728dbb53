-- The index as plain data.
use Rattle.cap_terminal.specs.Index.{TerminalIndex}
use Rattle.cap_terminal.specs.declared.index.Index.{Index}

abbrev pub index_view : Index → TerminalIndex
index_view x =
    record {
      sales = x.sales.items;
      items = x.items.items;
      acked = x.acked;
      running = x.running;
      closed = x.closed.items;
      completed = x.completed;
      cancelled = x.cancelled;
      voided = x.voided;
      sets = x.sets;
    }
