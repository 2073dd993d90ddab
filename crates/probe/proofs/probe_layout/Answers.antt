use Rattle.probe.proofs.probe_layout.Goals as goal

pub returns : goal.returns
returns c = cc (c.cut-cut.ensures, c.allocation_table-table.ensures, c.limit-limit.ensures)
