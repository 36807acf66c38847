use Rattle.std.proofs.Common.{◌≡◌, refl}
use Rattle.base.specs.declared.controller.protocol.Protocol.{Protocol}
use Rattle.base.specs.declared.controller.protocol.Protocol.TheVariants.{Msi, MsiE}
use Rattle.cache_table.specs.declared.state.CacheState.TheVariants.{I, IsD, ImAd, ImA, S, SmAd, SmA, M, MiA, SiA, IiA, E}
use Rattle.cache_table.specs.Baseline.{baseline_row, baseline_cells}
use Rattle.std.specs.Prelude.{[], ◌∷◌}
use Rattle.cache_table.proofs.baseline.baseline_rows.Goals as goal

-- all rows but two are the same in each protocol
rows : (p : Protocol) →
    (baseline_row Msi I ∷ baseline_row p IsD ∷ baseline_row Msi ImAd ∷ baseline_row Msi ImA ∷ baseline_row Msi S ∷ baseline_row Msi SmAd
    ∷ baseline_row Msi SmA ∷ baseline_row Msi M ∷ baseline_row Msi MiA ∷ baseline_row Msi SiA ∷ baseline_row Msi IiA ∷ baseline_row p E ∷ [])
    ≡ baseline_cells p
rows Msi = refl
rows MsiE = refl

pub returns : goal.returns
returns c =
    rw (
      c.i_row.ensures,
      c.is_d_row.ensures,
      c.im_ad_row.ensures,
      c.im_a_row.ensures,
      c.s_row.ensures,
      c.sm_ad_row.ensures,
      c.sm_a_row.ensures,
      c.m_row.ensures,
      c.mi_a_row.ensures,
      c.si_a_row.ensures,
      c.ii_a_row.ensures,
      c.e_row.ensures,
    ) (rows c.args.protocol)
