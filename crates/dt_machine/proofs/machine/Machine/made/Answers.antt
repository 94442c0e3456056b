use Rattle.std.proofs.Common.{SFits, rules}
use Rattle.std.proofs.lemmas.Int.{to_z-of_z}
use Rattle.std.specs.Int.{w32, w64}
use Rattle.dt_machine.proofs.Definitions.{contiguous_in, vector_in, hvector_in, indexed_in, hindexed_in, indexed_block_in, hindexed_block_in, resized_in, subarray_in, darray_in}
use Rattle.dt_machine.proofs.machine.Machine.made.Goals as goal

pub returns-in_ok-old-in-Contiguous : goal.returns-in_ok-old-in-Contiguous
returns-in_ok-old-in-Contiguous c =
    let count : SFits w32 c.in-Contiguous.count = search rules in
    rw c.in-Contiguous.is
    (contiguous_in c.args.self.now c.in-Contiguous.old c.in_ok-old-in-Contiguous.field-0 c.contiguous-in-Contiguous.result c.in_ok-old-in-Contiguous.ensures c.in-Contiguous.count
    (simp (to_z-of_z w32 c.in-Contiguous.count count) at c.contiguous-in-Contiguous.ensures))

pub returns-in_ok-old-in-Vector : goal.returns-in_ok-old-in-Vector
returns-in_ok-old-in-Vector c =
    let count : SFits w32 c.in-Vector.count = search rules in
    let block : SFits w32 c.in-Vector.block = search rules in
    let stride : SFits w32 c.in-Vector.stride = search rules in
    rw c.in-Vector.is
    (vector_in c.args.self.now c.in-Vector.old c.in_ok-old-in-Vector.field-0 c.vector-in-Vector.result c.in_ok-old-in-Vector.ensures c.in-Vector.count c.in-Vector.block c.in-Vector.stride
    (simp (to_z-of_z w32 c.in-Vector.count count, to_z-of_z w32 c.in-Vector.block block, to_z-of_z w32 c.in-Vector.stride stride) at c.vector-in-Vector.ensures))

pub returns-in_ok-old-in-Hvector : goal.returns-in_ok-old-in-Hvector
returns-in_ok-old-in-Hvector c =
    let count : SFits w32 c.in-Hvector.count = search rules in
    let block : SFits w32 c.in-Hvector.block = search rules in
    let stride : SFits w64 c.in-Hvector.stride = search rules in
    rw c.in-Hvector.is
    (hvector_in c.args.self.now c.in-Hvector.old c.in_ok-old-in-Hvector.field-0 c.hvector-in-Hvector.result c.in_ok-old-in-Hvector.ensures c.in-Hvector.count c.in-Hvector.block c.in-Hvector.stride
    (simp (to_z-of_z w32 c.in-Hvector.count count, to_z-of_z w32 c.in-Hvector.block block, to_z-of_z w64 c.in-Hvector.stride stride) at c.hvector-in-Hvector.ensures))

pub returns-in_ok-old-in-Indexed : goal.returns-in_ok-old-in-Indexed
returns-in_ok-old-in-Indexed c =
    rw c.in-Indexed.is
    (indexed_in c.args.self.now c.in-Indexed.old c.in_ok-old-in-Indexed.field-0 c.indexed-in-Indexed.result c.in_ok-old-in-Indexed.ensures c.in-Indexed.blocks
    (simp (c.as_slice.ensures) at c.indexed-in-Indexed.ensures))

pub returns-in_ok-old-in-Hindexed : goal.returns-in_ok-old-in-Hindexed
returns-in_ok-old-in-Hindexed c =
    rw c.in-Hindexed.is
    (hindexed_in c.args.self.now c.in-Hindexed.old c.in_ok-old-in-Hindexed.field-0 c.hindexed-in-Hindexed.result c.in_ok-old-in-Hindexed.ensures c.in-Hindexed.blocks
    (simp (c.as_slice-in-Hindexed.ensures) at c.hindexed-in-Hindexed.ensures))

pub returns-in_ok-old-in-IndexedBlock : goal.returns-in_ok-old-in-IndexedBlock
returns-in_ok-old-in-IndexedBlock c =
    let block : SFits w32 c.in-IndexedBlock.block = search rules in
    rw c.in-IndexedBlock.is
    (indexed_block_in c.args.self.now c.in-IndexedBlock.old c.in_ok-old-in-IndexedBlock.field-0 c.indexed_block-in-IndexedBlock.result c.in_ok-old-in-IndexedBlock.ensures c.in-IndexedBlock.block c.in-IndexedBlock.disps
    (simp (to_z-of_z w32 c.in-IndexedBlock.block block, c.as_slice-in-IndexedBlock.ensures) at c.indexed_block-in-IndexedBlock.ensures))

pub returns-in_ok-old-in-HindexedBlock : goal.returns-in_ok-old-in-HindexedBlock
returns-in_ok-old-in-HindexedBlock c =
    let block : SFits w32 c.in-HindexedBlock.block = search rules in
    rw c.in-HindexedBlock.is
    (hindexed_block_in c.args.self.now c.in-HindexedBlock.old c.in_ok-old-in-HindexedBlock.field-0 c.hindexed_block-in-HindexedBlock.result c.in_ok-old-in-HindexedBlock.ensures c.in-HindexedBlock.block c.in-HindexedBlock.disps
    (simp (to_z-of_z w32 c.in-HindexedBlock.block block, c.as_slice-in-HindexedBlock.ensures) at c.hindexed_block-in-HindexedBlock.ensures))

pub returns-in_ok-old-in-Resized : goal.returns-in_ok-old-in-Resized
returns-in_ok-old-in-Resized c =
    let lb : SFits w64 c.in-Resized.lb = search rules in
    let extent : SFits w64 c.in-Resized.extent = search rules in
    rw c.in-Resized.is
    (resized_in c.args.self.now c.in-Resized.old c.in_ok-old-in-Resized.field-0 c.resized-in-Resized.result c.in_ok-old-in-Resized.ensures c.in-Resized.lb c.in-Resized.extent
    (simp (to_z-of_z w64 c.in-Resized.lb lb, to_z-of_z w64 c.in-Resized.extent extent) at c.resized-in-Resized.ensures.answer))

pub returns-in_ok-old-in-Subarray : goal.returns-in_ok-old-in-Subarray
returns-in_ok-old-in-Subarray c =
    rw c.in-Subarray.is
    (subarray_in c.args.self.now c.in-Subarray.old c.in_ok-old-in-Subarray.field-0 c.subarray-in-Subarray.result c.in_ok-old-in-Subarray.ensures c.in-Subarray.order c.in-Subarray.dims
    (simp (c.as_slice-in-Subarray.ensures) at c.subarray-in-Subarray.ensures))

pub returns-in_ok-old-in-Darray : goal.returns-in_ok-old-in-Darray
returns-in_ok-old-in-Darray c =
    let size : SFits w32 c.in-Darray.size = search rules in
    let rank : SFits w32 c.in-Darray.rank = search rules in
    rw c.in-Darray.is
    (darray_in c.args.self.now c.in-Darray.old c.in_ok-old-in-Darray.field-0 c.darray-in-Darray.result c.in_ok-old-in-Darray.ensures c.in-Darray.size c.in-Darray.rank c.in-Darray.order c.in-Darray.dims
    (simp (to_z-of_z w32 c.in-Darray.size size, to_z-of_z w32 c.in-Darray.rank rank, c.as_slice-in-Darray.ensures) at c.darray-in-Darray.ensures))
