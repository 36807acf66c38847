use Rattle.std.proofs.Common.{◌≡◌, refl}
use Rattle.std.specs.Prelude.{[], ◌∷◌}
use Rattle.base.specs.declared.controller.protocol.Protocol.{Protocol}
use Rattle.base.specs.declared.controller.protocol.Protocol.TheVariants.{Msi, MsiE}
use Rattle.directory_table.specs.declared.state.DirectoryState.TheVariants.{I, S, M, SD}
use Rattle.directory_table.specs.Baseline.{baseline_row, baseline_cells}
use Rattle.directory_table.proofs.baseline.baseline_rows.Goals as goal

-- all rows but one are the same in each protocol
rows : (p : Protocol) → (baseline_row p I ∷ baseline_row Msi S ∷ baseline_row Msi M ∷ baseline_row Msi SD ∷ []) ≡ baseline_cells p
rows Msi = refl
rows MsiE = refl

pub returns : goal.returns
returns c = rw (c.i_row.ensures, c.s_row.ensures, c.m_row.ensures, c.s_d_row.ensures) (rows c.args.protocol)
