use Rattle.pm_schema.proofs.declared.declared_table.Goals as goal

pub declared_references-requires : goal.declared_references-requires
declared_references-requires c = rw (c.as_slice-texts.ensures, c.as_slice.ensures) c.requires.references
