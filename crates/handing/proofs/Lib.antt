pub mod ValueLaws
