-- A constructor is read exactly where the words are in its form.
use Rattle.std.proofs.Common.{◌≡◌, Some, refl}
use Rattle.dt_script.specs.declared.command.Ctor.{Ctor}
use Rattle.dt_script.specs.declared.command.Ctor.TheVariants.{Contiguous, Vector, Hvector, Indexed, Hindexed, IndexedBlock, HindexedBlock, Struct, Resized, Dup, Subarray, Darray}
use Rattle.dt_script.specs.Command.{IsCtor}
use Rattle.dt_script.specs.Forms.{contiguous, vector, hvector, resized, dup, indexed, hindexed, indexed_block, hindexed_block, parts, subarray, darray, array_forms, listed_forms, ctor_forms, ctor_of}
use Rattle.dt_script.specs.Item.{Words}
use Rattle.dt_script.proofs.FormLemmas.{any_sound, any_complete}

-- what is read is in the form of the constructor
pub ctor_sound : (ws : Words) (c : Ctor) → ctor_of ws ≡ Some c → IsCtor ws c
unfolding ctor_of ctor_forms listed_forms array_forms
ctor_sound ws c e =
    any_sound IsCtor ctor_forms ws c e (
      (tt, λ ws v h. (ws, refl, h)),
      (
        (tt, λ ws v h. (ws, refl, h)),
        (
          (tt, λ ws v h. (ws, refl, h)),
          (
            (tt, λ ws v h. (ws, refl, h)),
            (
              (tt, λ ws v h. (ws, refl, h)),
              (
                (tt, λ ws v h. (ws, refl, h)),
                (
                  (tt, λ ws v h. (ws, refl, h)),
                  (
                    (tt, λ ws v h. (ws, refl, h)),
                    (
                      (tt, λ ws v h. (ws, refl, h)),
                      (
                        (tt, λ ws v h. (ws, refl, h)),
                        (
                          (tt, λ ws v h. (ws, refl, h)),
                          (
                            (tt, λ ws v h. (ws, refl, h)),
                            tt,
                          ),
                        ),
                      ),
                    ),
                  ),
                ),
              ),
            ),
          ),
        ),
      ),
    )

-- what is in the form of a constructor is read
pub ctor_complete : (ws : Words) (c : Ctor) → IsCtor ws c → ctor_of ws ≡ Some c
unfolding ctor_of ctor_forms listed_forms array_forms
ctor_complete ws (Contiguous count old) h = any_complete ctor_forms contiguous tt ws (count, (old, tt)) h (λ _. refl)
ctor_complete ws (Vector count block stride old) h = any_complete ctor_forms vector tt ws (count, (block, (stride, (old, tt)))) h (λ _. refl)
ctor_complete ws (Hvector count block stride old) h = any_complete ctor_forms hvector tt ws (count, (block, (stride, (old, tt)))) h (λ _. refl)
ctor_complete ws (Indexed old blocks) h = any_complete ctor_forms indexed tt ws (old, blocks) h (λ _. refl)
ctor_complete ws (Hindexed old blocks) h = any_complete ctor_forms hindexed tt ws (old, blocks) h (λ _. refl)
ctor_complete ws (IndexedBlock old block disps) h = any_complete ctor_forms indexed_block tt ws (old, (block, disps)) h (λ _. refl)
ctor_complete ws (HindexedBlock old block disps) h = any_complete ctor_forms hindexed_block tt ws (old, (block, disps)) h (λ _. refl)
ctor_complete ws (Struct named) h = any_complete ctor_forms parts tt ws named h (λ _. refl)
ctor_complete ws (Resized lb extent old) h = any_complete ctor_forms resized tt ws (lb, (extent, (old, tt))) h (λ _. refl)
ctor_complete ws (Dup old) h = any_complete ctor_forms dup tt ws (old, tt) h (λ _. refl)
ctor_complete ws (Subarray order old dims) h = any_complete ctor_forms subarray tt ws (order, (old, dims)) h (λ _. refl)
ctor_complete ws (Darray size rank order old dims) h = any_complete ctor_forms darray tt ws (size, (rank, (order, (old, dims)))) h (λ _. refl)
