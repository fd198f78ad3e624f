use Rattle.std.proofs.Common.{refl, arith, rules}
use Rattle.search.proofs.Appending.{row_fits, count_fits, append-formed, append-room, append-stored}
use Rattle.search.proofs.store.Store.append.Goals as goal

pub write_row-requires-clause-fits : goal.write_row-requires-clause-fits
write_row-requires-clause-fits c = omega (arith, row_fits c.args.self.now c.args.row.now c.requires, c.as_mut_slice.ensures.len)

pub overflow_add-self-3 : goal.overflow_add-self-3
overflow_add-self-3 c = let h = count_fits c.args.self.now in search rules

pub invariant_of-self-clause-formed : goal.invariant_of-self-clause-formed
invariant_of-self-clause-formed c = append-formed c.args.self.now c.args.row.now c.requires c.write_row.new.work (search rules) (cc)

pub invariant_of-self-clause-room : goal.invariant_of-self-clause-room
invariant_of-self-clause-room c = append-room c.args.self.now c.args.row.now c.requires

pub returns : goal.returns
returns c = record { kind = refl; each = refl; vars = refl; owed = refl; rows = append-stored c.args.self.now c.args.row.now c.requires c.write_row.new.work (search rules) (cc); work = refl }
