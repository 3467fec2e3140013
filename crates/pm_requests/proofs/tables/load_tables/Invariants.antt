use Rattle.std.proofs.Common.{◌≡◌, ◌≤◌, map, take}
use Rattle.std.specs.Prelude.{IfSome}
use Rattle.pm_plan.specs.Rows.{decls_of}
use Rattle.pm_requests.specs.Tables.{AreLoaded}
use Rattle.pm_requests.proofs.tables.load_tables.Given as goal

abbrev pub invariant-loop-table : goal.invariant-loop-table
invariant-loop-table g l = record {
  held : g.F.Files.held l.files ≡ g.F.Files.held l.initial.files;
  faults : g.F.Files.faults l.initial.files ≤ g.F.Files.faults l.files;
  absences : g.F.Files.absences l.initial.files ≤ g.F.Files.absences l.files;
  declared : decls_of l.db ≡ map (λ table. table.decl) (take l.table-index l.tables);
  loaded : IfSome (g.F.Files.held l.initial.files) (λ held. AreLoaded held (take l.table-index l.tables) l.db);
}
