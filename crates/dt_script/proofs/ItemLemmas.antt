-- A word is read as an item exactly where it spells it.
use Rattle.std.proofs.Common.{◌≡◌, ℕ, List, Some}
use Rattle.dt_script.specs.Item.{Item, INT, ADDR, NAME, HEX, REP, ORDER, OP, HOW, INT_BLOCK, ADDR_BLOCK, PART, SUB_DIM, DIST_DIM, Value, IsItem}
use Rattle.dt_script.specs.Reading.{item_of}
use Rattle.dt_script.proofs.ArrayLemmas.{rep_sound, rep_complete, order_sound, order_complete, sub_dim_sound, sub_dim_complete, dist_dim_sound, dist_dim_complete}
use Rattle.dt_script.proofs.BlockLemmas.{int_block_sound, int_block_complete, address_block_sound, address_block_complete, part_sound, part_complete}
use Rattle.dt_script.proofs.ReadingLemmas.{name_some, name_complete}
use Rattle.dt_script.proofs.ReductionLemmas.{op_sound, op_complete, how_sound, how_complete}

pub item_sound : (i : Item) (word : List ℕ) (x : Value i) → item_of i word ≡ Some x → IsItem i word x
item_sound INT word x e = e
item_sound ADDR word x e = e
item_sound NAME word x e = name_some word x e
item_sound HEX word x e = e
item_sound REP word x e = rep_sound word x e
item_sound ORDER word x e = order_sound word x e
item_sound OP word x e = op_sound word x e
item_sound HOW word x e = how_sound word x e
item_sound INT_BLOCK word x e = int_block_sound word x e
item_sound ADDR_BLOCK word x e = address_block_sound word x e
item_sound PART word x e = part_sound word x e
item_sound SUB_DIM word x e = sub_dim_sound word x e
item_sound DIST_DIM word x e = dist_dim_sound word x e

pub item_complete : (i : Item) (word : List ℕ) (x : Value i) → IsItem i word x → item_of i word ≡ Some x
item_complete INT word x is = is
item_complete ADDR word x is = is
item_complete NAME word x is = name_complete word x is
item_complete HEX word x is = is
item_complete REP word x is = rep_complete word x is
item_complete ORDER word x is = order_complete word x is
item_complete OP word x is = op_complete word x is
item_complete HOW word x is = how_complete word x is
item_complete INT_BLOCK word x is = int_block_complete word x is
item_complete ADDR_BLOCK word x is = address_block_complete word x is
item_complete PART word x is = part_complete word x is
item_complete SUB_DIM word x is = sub_dim_complete word x is
item_complete DIST_DIM word x is = dist_dim_complete word x is
