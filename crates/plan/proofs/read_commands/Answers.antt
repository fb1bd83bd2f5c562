use Rattle.std.specs.Prelude.{Option, Some, None, Result, Ok, Err}
use Prim.Native.Nat.{ℕ, ◌+◌, ◌-◌, ◌<◌}
use mathlib.Core.Path.{◌≡◌, refl, ap, ◌∙◌, subst}
use mathlib.Core.List.{List}
use lib.ListN.{length}
use borrow.Author.Rules.{rules}
use Rattle.std.proofs.lemmas.Result.{err_from_is_err_and}
use Rattle.command.specs.declared.Command.{Command}
use Rattle.command.specs.declared.State.{State}
use Rattle.command.specs.declared.reader.Reader.{Reader}
use Rattle.command.specs.declared.refusal.Refusal.{Refusal}
use Rattle.command.specs.Command.{command_at, bytes_of}
use Rattle.command.specs.Reader.{handed_out, moved_on}
use Rattle.plan.specs.Progress.{Followed, Ended}
use Rattle.plan.proofs.Run.{Stands, stands_start, stops_refused, stops_end, stands_next, comes_nearer}
use Rattle.plan.proofs.read_commands.Goals as goal

-- a turn of the loop, where the reader holds the file
module _ (file : List ℕ) (r : Reader) (s : State) (rows : List ℕ) (reads : r.file.now ≡ file) (here : Stands file r.at s rows) (command : Command) (r' : Reader) (is : (command ≡ handed_out r) × (r' ≡ moved_on r)) (p : Result (Option State) Refusal) (rows' : List ℕ) (done : Followed rows r.at s command p rows') where
  followed : Followed rows r.at s (command_at file r.at) p rows'
  followed = subst (λ (c : Command). Followed rows r.at s c p rows') (is.0 ∙ ap (λ (l : List ℕ). command_at l r.at) reads) done

  file_next : r'.file.now ≡ file
  file_next = ap (λ (x : Reader). x.file.now) is.1 ∙ reads

  at_next : r'.at ≡ r.at + bytes_of (command_at file r.at)
  at_next = ap (λ (x : Reader). x.at) is.1 ∙ ap (λ (l : List ℕ). r.at + bytes_of (command_at l r.at)) reads

  refused_here : (e : Refusal) → p ≡ Err e → Ended file (Err e) rows'
  refused_here = stops_refused file r.at s rows here p rows' followed

  ends_at : p ≡ Ok None → Ended file (Ok (record { at = r.at; s = s })) rows'
  ends_at = stops_end file r.at s rows here p rows' followed

  goes : (next : State) → p ≡ Ok (Some next) → length rows' ≡ length rows → Stands file r'.at next rows'
  goes next on long = rw at_next (stands_next file r.at s rows here p rows' followed next on long)

  nearer : (next : State) → p ≡ Ok (Some next) → length file - r'.at < length file - r.at
  nearer next on = rw at_next (comes_nearer file r.at s rows here p rows' followed next on)

pub loop-next-init : goal.loop-next-init
loop-next-init c = rw (c.new-reader.ensures, c.nothing-s.ensures) (record { reads = refl; stands = stands_start _ _ c.requires.0 c.requires.1 c.requires.2 c.requires.3 })

pub returns-in_err-next : goal.returns-in_err-next
returns-in_err-next c =
    let p = err_from_is_err_and c.from_residual.result c.from_residual.ensures.1 in
    rw (p.1, p.2) (refused_here _ _ _ _ c.loop-next.invariant.reads c.loop-next.invariant.stands _ _ c.next-command.ensures _ _ c.follow.ensures _ c.in_err-next.was)

pub returns-in-None : goal.returns-in-None
returns-in-None c = ends_at _ _ _ _ c.loop-next.invariant.reads c.loop-next.invariant.stands _ _ c.next-command.ensures _ _ c.follow.ensures (c.in_ok-next.was ∙ ap (λ (o : Option State). Ok o) c.in-None.is)

pub loop-next-smaller : goal.loop-next-smaller
loop-next-smaller c = nearer _ _ _ _ c.loop-next.invariant.reads c.loop-next.invariant.stands _ _ c.next-command.ensures _ _ c.follow.ensures _ (c.in_ok-next.was ∙ ap (λ (o : Option State). Ok o) c.in-Some.is)

pub loop-next-preserved : goal.loop-next-preserved
loop-next-preserved c = record {
  reads = file_next _ _ _ _ c.loop-next.invariant.reads c.loop-next.invariant.stands _ _ c.next-command.ensures _ _ c.follow.ensures;
  stands = goes _ _ _ _ c.loop-next.invariant.reads c.loop-next.invariant.stands _ _ c.next-command.ensures _ _ c.follow.ensures _ (c.in_ok-next.was ∙ ap (λ (o : Option State). Ok o) c.in-Some.is) (search rules);
}
