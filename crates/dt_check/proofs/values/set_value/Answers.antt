use Rattle.std.proofs.Common.{length, length-set, arith, refl, sym}
use Rattle.std.specs.Vec.{with_item}
use Rattle.dt_check.proofs.Rowed.{place_within, rows_set, table_set}
use Rattle.dt_check.proofs.values.set_value.Goals as goal

pub index_mut-requires : goal.index_mut-requires
index_mut-requires c =
    let row = c.index-rows-size.result in
    let within = place_within (length c.args.rows.now) c.args.rows.now c.args.from c.args.size row (record {
      shape = c.requires.rows;
      some = c.requires.some;
      known = omega (arith, c.requires.inside);
      inside = c.requires.inside;
      is = c.index-rows-size.is;
    }) in
    rw (sym c.index-rows-size.is) (omega (arith, row.ok.0, within))

pub returns-clause-rows : goal.returns-clause-rows
returns-clause-rows c =
    let row = c.index-rows-size.result in
    rw (sym c.index-rows-size.is)
    (rows_set (length c.args.rows.now) c.args.rows.now c.args.from c.args.size row (with_item row c.args.from c.args.value) (record {
      shape = c.requires.rows;
      some = c.requires.some;
      known = omega (arith, c.requires.inside);
      inside = c.requires.inside;
      is = c.index-rows-size.is;
    }) (length-set row.items c.args.from c.args.value))

pub returns-clause-values : goal.returns-clause-values
returns-clause-values c =
    let row = c.index-rows-size.result in
    rw (sym c.index-rows-size.is)
    (table_set (length c.args.rows.now) c.args.rows.now c.args.from c.args.size c.args.value row (with_item row c.args.from c.args.value) (record {
      shape = c.requires.rows;
      some = c.requires.some;
      known = omega (arith, c.requires.inside);
      inside = c.requires.inside;
      is = c.index-rows-size.is;
    }) refl)
