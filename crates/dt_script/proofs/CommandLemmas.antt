-- A command is read exactly where the words of a line are in its form.
use Rattle.std.proofs.Common.{◌≡◌, Some, refl}
use Rattle.dt_script.specs.declared.command.Command.{Command}
use Rattle.dt_script.specs.declared.command.Command.TheVariants.{Define, Child, Commit, Free, Info, Map, Envelope, Contents, Buffer, Show, Bytes, Elements, Pack, Take, Seek, Close, Unpack, Give, Weights, Normalise, Rebuild, Copy, Export, Import, Reduce, Reduceall}
use Rattle.dt_script.specs.declared.command.Fill.{Fill}
use Rattle.dt_script.specs.declared.command.Fill.TheVariants.{Zero, Count, Hex}
use Rattle.dt_script.specs.Command.{IsFill, IsCommand, HasRanks}
use Rattle.dt_script.specs.Forms.{zero, count, hex, fill_forms, fill_of, define, child, commit, free, info, map, envelope, contents, buffer, show, bytes, counts, weights, normalise, rebuild, pack, take, seek, close, unpack, give, copy, export, import, reduce, reduceall, reduction_forms, copy_forms, unpack_forms, session_forms, tree_forms, buffer_forms, question_forms, command_forms, command_of}
use Rattle.dt_script.specs.Item.{Words}
use Rattle.dt_script.proofs.CtorLemmas.{ctor_sound, ctor_complete}
use Rattle.dt_script.proofs.FormLemmas.{AreFormsOf, any_sound, any_complete}

fill_sound : (ws : Words) (c : Fill) → fill_of ws ≡ Some c → IsFill ws c
unfolding fill_of fill_forms
fill_sound ws c e =
    any_sound IsFill fill_forms ws c e (
      (tt, λ ws v h. (ws, refl, h)),
      (
        (tt, λ ws v h. (ws, refl, h)),
        (
          (tt, λ ws v h. (ws, refl, h)),
          tt,
        ),
      ),
    )

fill_complete : (ws : Words) (c : Fill) → IsFill ws c → fill_of ws ≡ Some c
unfolding fill_of fill_forms
fill_complete ws (Zero len) h = any_complete fill_forms zero tt ws (len, tt) h (λ _. refl)
fill_complete ws (Count len) h = any_complete fill_forms count tt ws (len, tt) h (λ _. refl)
fill_complete ws (Hex given) h = any_complete fill_forms hex tt ws (given, tt) h (λ _. refl)

-- the forms of reductions, and those of copies and wire texts with them
reductions_are : AreFormsOf IsCommand reduction_forms
unfolding reduction_forms
reductions_are = ((tt, λ ws v h. (ws, refl, h)), ((tt, λ ws v h. (ws, refl, h)), tt))

copies_are : AreFormsOf IsCommand copy_forms
unfolding copy_forms
copies_are = ((tt, λ ws v h. (ws, refl, h)), ((tt, λ ws v h. (ws, refl, h)), ((tt, λ ws v h. (ws, refl, h)), reductions_are)))

-- what is read is in the form of the command
pub command_sound : (ws : Words) (c : Command) → command_of ws ≡ Some c → IsCommand ws c
unfolding command_of command_forms question_forms buffer_forms tree_forms session_forms unpack_forms
command_sound ws c e =
    any_sound IsCommand command_forms ws c e (
      (ctor_sound, λ ws v h. (ws, refl, h)),
      (
        (tt, λ ws v h. (ws, refl, h)),
        (
          (tt, λ ws v h. (ws, refl, h)),
          (
            (tt, λ ws v h. (ws, refl, h)),
            (
              (tt, λ ws v h. (ws, refl, h)),
              (
                (tt, λ ws v h. (ws, refl, h)),
                (
                  (tt, λ ws v h. (ws, refl, h)),
                  (
                    (tt, λ ws v h. (ws, refl, h)),
                    (
                      (fill_sound, λ ws v h. (ws, refl, h)),
                      (
                        (tt, λ ws v h. (ws, refl, h)),
                        (
                          (tt, λ ws v h. (ws, refl, h)),
                          (
                            (tt, λ ws v h. (ws, refl, h)),
                            (
                              (tt, λ ws v h. (ws, refl, h)),
                              (
                                (tt, λ ws v h. (ws, refl, h)),
                                (
                                  (tt, λ ws v h. (ws, refl, h)),
                                  (
                                    (tt, λ ws v h. (ws, refl, h)),
                                    (
                                      (tt, λ ws v h. (ws, refl, h)),
                                      (
                                        (tt, λ ws v h. (ws, refl, h)),
                                        (
                                          (tt, λ ws v h. (ws, refl, h)),
                                          (
                                            (tt, λ ws v h. (ws, refl, h)),
                                            (
                                              (tt, λ ws v h. (ws, refl, h)),
                                              copies_are,
                                            ),
                                          ),
                                        ),
                                      ),
                                    ),
                                  ),
                                ),
                              ),
                            ),
                          ),
                        ),
                      ),
                    ),
                  ),
                ),
              ),
            ),
          ),
        ),
      ),
    )

-- what is in the form of a command is read
pub command_complete : (ws : Words) (c : Command) → IsCommand ws c → command_of ws ≡ Some c
unfolding command_of command_forms question_forms buffer_forms tree_forms session_forms unpack_forms copy_forms reduction_forms
command_complete ws (Define name ctor) h = any_complete command_forms define ctor_complete ws (name, ctor) h (λ _. refl)
command_complete ws (Child name ty k) h = any_complete command_forms child tt ws (name, (ty, (k, tt))) h (λ _. refl)
command_complete ws (Commit ty) h = any_complete command_forms commit tt ws (ty, tt) h (λ _. refl)
command_complete ws (Free ty) h = any_complete command_forms free tt ws (ty, tt) h (λ _. refl)
command_complete ws (Info ty) h = any_complete command_forms info tt ws (ty, tt) h (λ _. refl)
command_complete ws (Map ty) h = any_complete command_forms map tt ws (ty, tt) h (λ _. refl)
command_complete ws (Envelope ty) h = any_complete command_forms envelope tt ws (ty, tt) h (λ _. refl)
command_complete ws (Contents ty) h = any_complete command_forms contents tt ws (ty, tt) h (λ _. refl)
command_complete ws (Buffer name fill) h = any_complete command_forms buffer fill_complete ws (name, fill) h (λ _. refl)
command_complete ws (Show name) h = any_complete command_forms show tt ws (name, tt) h (λ _. refl)
command_complete ws (Bytes rep copies ty name origin) h = any_complete command_forms bytes tt ws (rep, (copies, (ty, (name, (origin, tt))))) h (λ _. refl)
command_complete ws (Elements rep given ty) h = any_complete command_forms counts tt ws (rep, (given, (ty, tt))) h (λ _. refl)
command_complete ws (Pack session rep copies ty name origin) h =
    any_complete command_forms pack tt ws (session, (rep, (copies, (ty, (name, (origin, tt)))))) h (λ _. refl)
command_complete ws (Take session len) h = any_complete command_forms take tt ws (session, (len, tt)) h (λ _. refl)
command_complete ws (Seek session byte) h = any_complete command_forms seek tt ws (session, (byte, tt)) h (λ _. refl)
command_complete ws (Close session) h = any_complete command_forms close tt ws (session, tt) h (λ _. refl)
command_complete ws (Unpack session rep copies ty name origin) h =
    any_complete command_forms unpack tt ws (session, (rep, (copies, (ty, (name, (origin, tt)))))) h (λ _. refl)
command_complete ws (Give session piece) h = any_complete command_forms give tt ws (session, (piece, tt)) h (λ _. refl)
command_complete ws (Weights leaf vector index place group part) h =
    any_complete command_forms weights tt ws (leaf, (vector, (index, (place, (group, (part, tt)))))) h (λ _. refl)
command_complete ws (Normalise ty) h = any_complete command_forms normalise tt ws (ty, tt) h (λ _. refl)
command_complete ws (Rebuild name ty) h = any_complete command_forms rebuild tt ws (name, (ty, tt)) h (λ _. refl)
command_complete ws (Copy source_count source_type source source_origin target_count target_type target target_origin) h =
    any_complete command_forms copy tt ws (
      source_count,
      (source_type, (source, (source_origin, (target_count, (target_type, (target, (target_origin, tt))))))),
    ) h (λ _. refl)
command_complete ws (Export ty) h = any_complete command_forms export tt ws (ty, tt) h (λ _. refl)
command_complete ws (Import name wire) h = any_complete command_forms import tt ws (name, (wire, tt)) h (λ _. refl)
command_complete ws (Reduce op copies ty source source_origin target target_origin) h =
    any_complete command_forms reduce tt ws (op, (copies, (ty, (source, (source_origin, (target, (target_origin, tt))))))) h (λ _. refl)
command_complete ws (Reduceall op how copies ty origin target ranks) h =
    any_complete command_forms reduceall tt ws (op, (how, (copies, (ty, (origin, (target, ranks)))))) h (λ _. refl)

-- a command of a line has the ranks that it asks for: they stand behind its word and six more
pub has_ranks : (ws : Words) (c : Command) → IsCommand ws c → HasRanks c
has_ranks ws (Reduceall op how copies ty origin target ranks) h = h.2.4.4.4.4.4.4.0
has_ranks ws c h = tt
