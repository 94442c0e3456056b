-- What merged rows come to.
use Rattle.std.proofs.Common.{Option, ℕ, List, [], ◌∷◌, unwrap_or, sym, ap, ◌∙◌}
use Rattle.dt_reduce.specs.Folded.{AreWords, joined_row}
use Rattle.dt_reduce.specs.Laws.{MergesAreFolded}
use Rattle.dt_reduce.proofs.Merging.{merges_fold}
use Rattle.dt_reduce.proofs.Rowing.{rows_are_free}

pub merges_are_folded : MergesAreFolded
merges_are_folded join kinds rows merges gives associates all bracket =
    let left = merges_fold (joined_row join kinds) (AreWords kinds) (rows_are_free join gives associates kinds) rows merges bracket all in
    left.1 ∙ ap (λ (row : Option (List ℕ)). unwrap_or row [] ∷ []) (sym left.2)
