-- The plan of a sheet that reads, from its index.
use Rattle.std.specs.Prelude.{Ok}
use mathlib.Core.Path.{◌≡◌, sym, subst}
use Rattle.rules.specs.Program.{Program}
use Rattle.rules.specs.Format.{Bytes, read_sheet}
use Rattle.reader.specs.declared.Index.{Index}
use Rattle.reader.specs.Index.{index_of}
use Rattle.reader.proofs.Facts.{accepted, program-facts, program-is, index-facts}
use Rattle.event.specs.Plan.{Planned, plan_of, Ready}

module _ (s : Bytes) (i : Index) (h : index_of (read_sheet s) ≡ Ok i) where
  pub ready : Ready s (plan_of i) i.places
  ready =
      let a = accepted (read_sheet s) h in
      let f = index-facts a.0 a.1 h a.2 in
      subst (λ (g : Program). Planned s g (plan_of i) i.places) (sym (program-is s a.0 a.1 a.2))
      (record {
        facts = program-facts s a.0 a.1 a.2;
        threads = f.threads;
        limit = f.limit;
        entries = f.entries;
        places_are = f.places;
      })
